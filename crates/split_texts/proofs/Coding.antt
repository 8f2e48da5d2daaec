-- What `encode` answers: codes of parts that tell all states apart, or the refusal that the parts call for.
use Rattle.std.proofs.Common.{◌≡◌, ◌≢◌, ◌⊎◌, ◌≤◌, ℕ, All, Bool, List, [], ◌∷◌, Result, Ok, Err, IfOk, inl, inr, length, refl, sym, ◌∙◌, subst}
use Rattle.std.specs.declared.alloc.AllocError.{AllocError}
use Rattle.answers.specs.declared.refusals.Refusal.{Refusal}
use Rattle.answers.specs.declared.refusals.Refusal.TheVariants as refusals
use Rattle.answers.specs.Cause.{CallsForNone}
use Rattle.answers.specs.Outcome.{IsStop}
use Rattle.answers.specs.Laws.Causes.{none_first}
use Rattle.blif_out.specs.declared.networks.HeadedNetwork.{HeadedNetwork}
use Rattle.state_reduce.specs.declared.work.WorkMachine.{WorkMachine}
use Rattle.decomposition.specs.Decomposition.{IsDecomposed}
use Rattle.state_reduce.specs.Work.{IsWork}
use Rattle.kiss_file.specs.declared.file.KissFile.{KissFile}
use Rattle.state_codes.specs.declared.CodeFail.{CodeFail}
use Rattle.state_codes.specs.declared.CodeFail.TheVariants.{CodeTooLong, NotApart, NoMemory}
use Rattle.state_codes.specs.declared.Codes.{Codes}
use Rattle.state_codes.specs.declared.split.Kind.{Kind}
use Rattle.state_codes.specs.declared.split.Part.{Part}
use Rattle.state_codes.specs.Agreement.{AreDistinct}
use Rattle.state_codes.specs.Code.{IsCode}
use Rattle.state_codes.specs.Fault.{CodeFault, FirstTogether}
use Rattle.state_codes.specs.Split.{IsPart}
use Rattle.split_texts.specs.Causes.{HasLongCode, HasNoCode, LeavesTogether}
use Rattle.split_texts.specs.Inner.NamedStates.{NamesStates}
use Rattle.split_texts.specs.SplitText.{AreCodes, IsOfParts}
use Rattle.split_texts.specs.Laws.Causes.{apart_leaves_none, short_has_none}
use Rattle.split_texts.specs.Laws.Codes.{apart_of_codes}

-- ---- of as many states as the machine has
module _ (W : KissFile) (parts : List Part) (n : ℕ) (count : n ≡ length W.states) where
  pub coded : (codes : Codes) → All (IsPart (length W.states)) parts → IsCode n parts codes → AreDistinct n codes.words → codes.bits ≤ 64 → CallsForNone (HasNoCode W parts) × AreCodes (length W.states) parts codes
  coded codes lawful code distinct short =
      let here : IsCode (length W.states) parts codes = subst (λ (k : ℕ). IsCode k parts codes) count code in
      let apart : AreDistinct (length W.states) codes.words = subst (λ (k : ℕ). AreDistinct k codes.words) count distinct in
      let are : AreCodes (length W.states) parts codes = record { apart = apart_of_codes (length W.states) parts codes lawful here apart; code = here; distinct = apart; short = short } in (
        none_first (LeavesTogether W parts ∷ HasLongCode parts ∷ []) (apart_leaves_none W parts are.apart, (short_has_none (length W.states) parts codes are, tt)),
        are,
      )

  -- a fault has its cause
  module _ (result : Result Codes CodeFail) (fail : CodeFail) (refused : (f : CodeFail) → result ≡ Err f → (f ≡ NoMemory) ⊎ CodeFault n parts f) (failed : result ≡ Err fail) where
    fault_of : (cause : CodeFail) → fail ≡ cause → cause ≢ NoMemory → CodeFault (length W.states) parts cause
    fault_of cause is other =
        elim (refused fail failed) [
          | inl wanting ↦ absurd (other (sym is ∙ wanting))
          | inr fault ↦ subst (λ (f : CodeFail). CodeFault (length W.states) parts f) is (subst (λ (k : ℕ). CodeFault k parts fail) count fault)
        ]

    pub left_together : (s t : ℕ) → fail ≡ NotApart s t → FirstTogether (length W.states) parts s t
    left_together s t is = fault_of (NotApart s t) is (λ e. cc)

    pub stop_together : (s t : ℕ) (refusal : Refusal) → fail ≡ NotApart s t → NamesStates W s t refusal → IsStop (HasNoCode W parts) refusal
    stop_together s t refusal is (state, other, equal, name, other_name) =
        inr (inl (state, other, equal, record { s = s; t = t; first = left_together s t is; state_name = name; other_name = other_name }))

    pub stop_long : (bits : ℕ) → fail ≡ CodeTooLong bits → IsStop (HasNoCode W parts) (refusals.CodeTooLong bits)
    stop_long bits is =
        let fault : CodeFault (length W.states) parts (CodeTooLong bits) = fault_of (CodeTooLong bits) is (λ e. cc) in
        inr (inr (apart_leaves_none W parts fault.0, inl (bits, refl, fault.1, fault.2)))

-- ---- the network
pub of_parts : (work : WorkMachine) (kind : Kind) (parts : List Part) (result : Result HeadedNetwork AllocError)
    → ((reduce : Bool) → IsWork reduce work.file.now work → IfOk result (IsDecomposed reduce work.file.now work.machine kind parts))
    → IfOk result (IsOfParts work kind parts)
of_parts work kind parts (Ok made) is = is
of_parts work kind parts (Err wanting) is = tt
