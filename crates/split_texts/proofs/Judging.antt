-- What comes of a plan and of a split is what comes of a decomposition.
use Rattle.std.proofs.Common.{◌≤◌, ℕ, Bool, List, [], ◌∷◌, Result, Ok, Err, inl, inr, length, refl, subst, arith}
use Rattle.std.proofs.lemmas.Bool.{cases_lt}
use Rattle.answers.specs.declared.refusals.Refusal.{Refusal}
use Rattle.answers.specs.declared.refusals.Refusal.TheVariants.{CodeTooLong}
use Rattle.answers.specs.Cause.{CallsForNone}
use Rattle.answers.specs.Outcome.{IsJudged, IsStop}
use Rattle.answers.specs.Laws.Causes.{none_first}
use Rattle.blif_out.specs.declared.networks.HeadedNetwork.{HeadedNetwork}
use Rattle.blif_out.specs.NetworkText.{CanBeHeaded}
use Rattle.state_reduce.specs.declared.work.WorkMachine.{WorkMachine}
use Rattle.decomposition.specs.Decomposition.{HasGates, IsDecomposed}
use Rattle.state_reduce.specs.Work.{IsWork, IsWorkOf}
use Rattle.state_reduce.specs.Laws.Works.{with_its_file}
use Rattle.kiss_file.specs.declared.file.KissFile.{KissFile}
use Rattle.kiss_file.specs.LawfulFile.{IsLawful}
use Rattle.kiss_file.specs.Machine.{Conflicting}
use Rattle.split_texts.specs.Splits.{AreParts, HasNoPlan, IsPlanned, LacksSplit, Refuses}
use Rattle.split_texts.specs.Laws.Plans.{lacking_is_apart}
use Rattle.split_texts.specs.Laws.Kinds.{promises_kept}
use Rattle.state_codes.specs.declared.Codes.{Codes}
use Rattle.state_codes.specs.declared.split.Kind.{Kind}
use Rattle.state_codes.specs.declared.split.Part.{Part}
use Rattle.state_codes.specs.declared.split.Split.{Split}
use Rattle.state_codes.specs.Code.{IsCode}
use Rattle.state_codes.specs.Fault.{AreApart}
use Rattle.split_texts.specs.Causes.{HasLongCode, HasNoCode, HasNoText, IsNotWritten, LeavesTogether, OfParts}
use Rattle.split_texts.specs.SplitText.{IsOfKind, IsOfParts, KeepsPromises}
use Rattle.split_texts.specs.Laws.Codes.{length_of_codes}
use Rattle.split_texts.specs.Laws.Causes.{apart_leaves_none, of_parts_none, on_work_none}
use Rattle.split_texts.proofs.Listing.{read_by_rule}

-- ---- of one machine W
module _ (kind : Kind) (text : List ℕ) (W : KissFile) where
  -- where there is no plan, there is no text: a machine that has no split has no parts that leave states together
  none_together : (row : Refusal) → LacksSplit kind W row → CallsForNone (OfParts kind text W (LeavesTogether W))
  none_together row (is, none) refusal (parts, made, calls) = apart_leaves_none W parts (lacking_is_apart kind text W parts none made) refusal calls

  no_plan_no_text : (refusal : Refusal) → HasNoPlan kind text W refusal → HasNoText kind text W refusal
  no_plan_no_text refusal (inl bad) = inl bad
  no_plan_no_text refusal (inr (fit, inl lacks)) = inr (fit, inr (none_together refusal lacks, inl lacks))
  no_plan_no_text refusal (inr (fit, inr later)) = absurd later.1

  -- where there is a plan, what its parts call for is what the text calls for
  module _ (parts : List Part) (made : AreParts kind text W parts) (plan : CallsForNone (HasNoPlan kind text W)) where
    fits : CallsForNone (Refuses kind text W)
    fits refusal bad = plan refusal (inl bad)

    has_split : CallsForNone (LacksSplit kind W)
    has_split refusal lacks = plan refusal (inr (fits, inl lacks))

    no_code_no_text : (refusal : Refusal) → HasNoCode W parts refusal → HasNoText kind text W refusal
    no_code_no_text refusal (inl together) = inr (fits, inl (parts, made, together))
    no_code_no_text refusal (inr (apart, inl long)) =
        inr (fits, inr (of_parts_none kind text W parts (LeavesTogether W) made apart, inr (has_split, inl (parts, made, long))))
    no_code_no_text refusal (inr (apart, inr later)) = absurd later.1

    text_of_code : CallsForNone (HasNoCode W parts) → CallsForNone (HasNoText kind text W)
    text_of_code code =
        let apart : CallsForNone (LeavesTogether W parts) = λ refusal together. code refusal (inl together) in
        let short : CallsForNone (HasLongCode parts) = λ refusal long. code refusal (inr (apart, inl long)) in
        none_first (Refuses kind text W ∷ OfParts kind text W (LeavesTogether W) ∷ LacksSplit kind W ∷ OfParts kind text W HasLongCode ∷ [])
        (fits, (of_parts_none kind text W parts (LeavesTogether W) made apart, (has_split, (of_parts_none kind text W parts HasLongCode made short, tt))))

-- ---- of the machine of a file
module _ (kind : Kind) (text : List ℕ) (reduce : Bool) (F : KissFile) (work : WorkMachine) (lawful : IsLawful F) (no_conflict : Conflicting F → ⊥) (is_work : IsWork reduce F work) where
  work_is : IsWorkOf reduce F work.machine
  work_is = (is_work.class, is_work.machine)

  pub stop_of_plan : (refusal : Refusal) → IsStop (HasNoPlan kind text work.machine) refusal → IsStop (IsNotWritten kind text reduce F) refusal
  stop_of_plan refusal (inl wanting) = inl wanting
  stop_of_plan refusal (inr calls) = inr (work.machine, work_is, no_plan_no_text kind text work.machine refusal calls)

  module _ (split : Split) (plan : CallsForNone (HasNoPlan kind text work.machine) × IsPlanned kind text work.machine split) where
    pub stop_of_code : (refusal : Refusal) → IsStop (HasNoCode work.machine split.parts) refusal → IsStop (IsNotWritten kind text reduce F) refusal
    stop_of_code refusal (inl wanting) = inl wanting
    stop_of_code refusal (inr calls) = inr (work.machine, work_is, no_code_no_text kind text work.machine split.parts plan.1.made plan.0 refusal calls)

    -- where neither the plan nor its codes call for a refusal, the text does not
    pub none_written : CallsForNone (HasNoCode work.machine split.parts) → CallsForNone (IsNotWritten kind text reduce F)
    none_written none = on_work_none kind text reduce F work.machine work_is (text_of_code kind text work.machine split.parts plan.1.made plan.0 none)

    -- codes of parts that call for no refusal are short
    short : (codes : Codes) → CallsForNone (HasNoCode work.machine split.parts) → AreApart (length work.machine.states) split.parts → IsCode (length work.machine.states) split.parts codes → codes.bits ≤ 64
    short codes none apart code =
        elim (cases_lt 64 codes.bits) [
          | inl long ↦
              absurd (none (CodeTooLong codes.bits) (inr (apart_leaves_none work.machine split.parts apart, inl (codes.bits, refl, length_of_codes (length work.machine.states) split.parts codes code, long))))
          | inr fits ↦ omega (arith, fits)
        ]

    -- what the kind promises of codes and gates
    kept : CallsForNone (HasNoCode work.machine split.parts) → AreApart (length work.machine.states) split.parts → KeepsPromises kind reduce F work.machine split.parts
    kept none apart class codes N H same is =
        let code : IsCode (length work.machine.states) split.parts codes = subst (λ (list : List Part). IsCode (length work.machine.states) list codes) same is.codes_of_parts in
        let gates : HasGates F work.machine split.parts codes N = subst (λ (list : List Part). HasGates F work.machine list codes N) same is.gates in
        promises_kept kind text work.machine split.parts codes N (λ refusal bad. plan.0 refusal (inl bad)) plan.1.made code
        (read_by_rule F work codes lawful no_conflict code.written.states (short codes none apart code) reduce is_work split.parts N gates)

    of_work : (made : HeadedNetwork) → IsOfParts work split.kind split.parts made → IsDecomposed reduce F work.machine split.kind split.parts made
    of_work made is = subst (λ (G : KissFile). IsDecomposed reduce G work.machine split.kind split.parts made) is_work.file (is reduce (with_its_file reduce F work is_work))

    pub judged_network : (result : Result HeadedNetwork Refusal) → IsJudged (HasNoCode work.machine split.parts) (λ made. AreApart (length work.machine.states) split.parts × CanBeHeaded made × IsOfParts work split.kind split.parts made) result
        → IsJudged (IsNotWritten kind text reduce F) (λ made. CanBeHeaded made × IsOfKind kind text reduce F made) result
    judged_network (Err refusal) stop = stop_of_code refusal stop
    judged_network (Ok made) (none, (apart, ready, is)) = (
      none_written none,
      (
        ready,
        (
          work.machine,
          split.parts,
          record { made = plan.1.made; apart = apart },
          subst (λ (k : Kind). IsDecomposed reduce F work.machine k split.parts made) plan.1.same_kind (of_work made is),
          kept none apart,
        ),
      ),
    )
