-- What `definite` makes of a machine is right.
use Rattle.std.proofs.Common.{◌≡◌, ℕ, ◌-◌, ◌<◌, Bool, List, inl, inr, length, slice_index, ap, ◌∙◌, subst, arith}
use Rattle.std.proofs.lemmas.Bool.{cases_eq}
use Rattle.answers.specs.Cause.{CallsForNone}
use Rattle.answers.specs.Outcome.{IsStop}
use Rattle.answers.specs.declared.refusals.Refusal.{Refusal}
use Rattle.state_reduce.specs.declared.work.WorkMachine.{WorkMachine}
use Rattle.state_reduce.specs.Laws.Works.{one_work}
use Rattle.state_reduce.specs.Work.{IsWork, IsWorkOf}
use Rattle.kiss_file.specs.declared.file.KissFile.{KissFile}
use Rattle.machine_table.specs.NextStates.{NeverLeaves}
use Rattle.partition.specs.Partition.{IsOne, IsPartition}
use Rattle.shift_real.specs.Chain.{AreTogetherAfter, IsChain}
use Rattle.shift_real.specs.DefiniteMachine.{AreFirstApart, Definite, IsOrder}
use Rattle.shift_real.proofs.Telling.{kept_apart}
use Rattle.machine_reports.specs.Causes.{KeepsApart, NotDefiniteRow}
use Rattle.machine_reports.specs.DefiniteText.{IsChainText, IsWholeChain}
use Rattle.machine_reports.specs.ListTexts.{lines_of}
use Rattle.machine_reports.specs.StateTexts.{state_line}
use Rattle.machine_reports.specs.declared.state_texts.Shown.{Shown}

-- the last member of the chain of a definite machine is one, since words of every length keep apart what it holds apart
last_is_one : (W : KissFile) (members : List (List ℕ)) (k : ℕ) → NeverLeaves W → (chain : IsChain W members) → AreTogetherAfter W members → Definite W k → IsOne chain.last.0
last_is_one W members k stays chain together definite s t in_s in_t =
    let p : List ℕ = chain.last.0 in
    let tell = together (length members - 1) p chain.last.1 in
    let lawful : IsPartition (length W.states) p = tell.0 in
    let low_s : s < length W.states = omega (arith, in_s, lawful.length) in
    let low_t : t < length W.states = omega (arith, in_t, lawful.length) in
    elim (cases_eq (slice_index p s) (slice_index p t)) [
      | inl same ↦ (in_s, in_t, same)
      | inr other ↦ absurd (kept_apart W (length members - 1) p s t stays lawful chain.last.2 tell.1 low_s low_t (λ held. other held.2) k (definite s t low_s low_t))
    ]

-- a machine whose chain is whole is definite
pub definite_when_whole : (W : KissFile) (members : List (List ℕ)) → IsWholeChain W members → Definite W (length members - 1)
definite_when_whole W members whole s t in_s in_t =
    let tell = whole.together (length members - 1) whole.last.0 whole.last.1 in
    let size : length whole.last.0 ≡ length W.states = tell.0.length in
    (tell.1 s t in_s in_t).0 (whole.last.2 s t (omega (arith, size)) (omega (arith, size)))

-- a definite machine keeps no two states apart
pub never_apart : (W : KissFile) (k s t : ℕ) → Definite W k → AreFirstApart W s t → ⊥
never_apart W k s t definite first = first.apart k (definite s t first.first_state first.second_state)

pub none_apart : (W : KissFile) (k : ℕ) → IsOrder W k → CallsForNone (KeepsApart W)
none_apart W k order refusal (s, t, name, other, is, first, named, other_named) = never_apart W k s t order.definite first

module _ (reduce : Bool) (F : KissFile) (work : WorkMachine) (is_work : IsWork reduce F work) where
  pub work_of : IsWorkOf reduce F work.machine
  work_of = (is_work.class, is_work.machine)

  -- a machine that has an order calls for no refusal
  not_called : (k : ℕ) → Definite work.machine k → CallsForNone (NotDefiniteRow reduce F)
  not_called k definite refusal (V, other, (s, t, name, other_name, is, first, named, other_named)) =
      never_apart V k s t (subst (λ (M : KissFile). Definite M k) (one_work reduce F work.machine V work_of other) definite) first

  -- what keeps two of its states apart is called for
  pub stop_of_order : (refusal : Refusal) → IsStop (KeepsApart work.machine) refusal → IsStop (NotDefiniteRow reduce F) refusal
  stop_of_order refusal (inl wanting) = inl wanting
  stop_of_order refusal (inr calls) = inr (work.machine, work_of, calls)

  -- and its chain is whole
  pub right_chain : (shown : Shown) (k : ℕ) (members lent names : List (List ℕ)) (text : List ℕ) → NeverLeaves work.machine → IsOrder work.machine k → IsChain work.machine members → AreTogetherAfter work.machine members → lent ≡ members → names ≡ work.machine.states → text ≡ lines_of (state_line shown names) lent
      → CallsForNone (NotDefiniteRow reduce F) × IsChainText shown reduce F text
  right_chain shown k members lent names text stays order chain together same named lines =
      let is_whole : IsWholeChain work.machine members = record {
        chain = chain;
        together = together;
        last = (chain.last.0, chain.last.1, last_is_one work.machine members k stays chain together order.definite);
      } in (
        not_called k order.definite,
        (
          work.machine,
          work_of,
          (
            members,
            is_whole,
            lines
                ∙ ap (λ (list : List (List ℕ)). lines_of (state_line shown names) list) same
                ∙ ap (λ (list : List (List ℕ)). lines_of (state_line shown list) members) named,
          ),
        ),
      )
