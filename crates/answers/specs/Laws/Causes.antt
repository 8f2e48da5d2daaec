-- Laws of causes: all refusals that a list of causes calls for have one answer.
use Rattle.std.specs.Prelude.{◌≡◌, ◌≢◌, ◌⊎◌, ⊤, ℕ, List, [], ◌∷◌, Result, Ok, Err, refl}
use Rattle.std.proofs.Common.{inl, inr, sym, ap, ◌∙◌, subst}
use Rattle.answers.specs.declared.numbers.Answer.{Answer}
use Rattle.answers.specs.declared.numbers.Answer.TheVariants as answers
use Rattle.answers.specs.declared.refusals.Refusal.{Refusal}
use Rattle.answers.specs.declared.refusals.Refusal.TheVariants.{NoMemory}
use Rattle.answers.specs.declared.reports.Report.{Report}
use Rattle.answers.specs.declared.reports.Report.TheVariants.{Evidence, Network, Whole}
use Rattle.answers.specs.Cause.{CallsForNone, Cause, FirstOf}
use Rattle.answers.specs.Outcome.{IsJudged, IsReported, IsStop}
use Rattle.answers.specs.Refusal.{answer_of}

-- ---- one answer
-- a cause calls only for refusals of this answer
abbrev pub IsOf : Answer → Cause → Type 0
IsOf answer cause = (refusal : Refusal) → cause refusal → answer_of refusal ≡ answer

-- all refusals that a cause calls for have one answer
abbrev pub HasOneAnswer : Cause → Type 0
HasOneAnswer cause = (one other : Refusal) → cause one → cause other → answer_of one ≡ answer_of other

-- the same for each of some causes
abbrev pub EachHasOne : List Cause → Type 0
EachHasOne [] = ⊤
EachHasOne (cause ∷ later) = HasOneAnswer cause × EachHasOne later

pub one_of : (answer : Answer) (cause : Cause) → IsOf answer cause → HasOneAnswer cause
one_of answer cause of one other h k = of one h ∙ sym (of other k)

-- if the refusals of each cause have one answer, so have those of the causes in the order of judgement
pub first_has_one : (causes : List Cause) → EachHasOne causes → HasOneAnswer (FirstOf causes)
first_has_one [] each one other h k = absurd h
first_has_one (cause ∷ later) each one other (inl h) (inl k) = each.0 one other h k
first_has_one (cause ∷ later) each one other (inl h) (inr k) = absurd (k.0 one h)
first_has_one (cause ∷ later) each one other (inr h) (inl k) = absurd (h.0 other k)
first_has_one (cause ∷ later) each one other (inr h) (inr k) = first_has_one later each.1 one other h.1 k.1

-- ---- none
-- none of some causes calls for a refusal
abbrev pub AllCallForNone : List Cause → Type 0
AllCallForNone [] = ⊤
AllCallForNone (cause ∷ later) = CallsForNone cause × AllCallForNone later

pub none_first : (causes : List Cause) → AllCallForNone causes → CallsForNone (FirstOf causes)
none_first [] none refusal h = h
none_first (cause ∷ later) none refusal (inl h) = none.0 refusal h
none_first (cause ∷ later) none refusal (inr h) = none_first later none.1 refusal h.1

-- ---- from one cause to another that calls for the same
-- whatever the first cause calls for, the other calls for too
abbrev pub Within : Cause → Cause → Type 0
Within cause other = (refusal : Refusal) → cause refusal → other refusal

pub none_within : (cause other : Cause) → Within other cause → CallsForNone cause → CallsForNone other
none_within cause other within none refusal h = none refusal (within refusal h)

pub stop_within : (cause other : Cause) (refusal : Refusal) → Within cause other → IsStop cause refusal → IsStop other refusal
stop_within cause other refusal within (inl wanting) = inl wanting
stop_within cause other refusal within (inr h) = inr (within refusal h)

pub judged_within : {V : Type 0} (cause other : Cause) (P Q : V → Type 0) (result : Result V Refusal) → Within cause other → (CallsForNone cause → CallsForNone other) → ((value : V) → P value → Q value) → IsJudged cause P result → IsJudged other Q result
judged_within cause other P Q (Ok value) within none right (none_here, h) = (none none_here, right value h)
judged_within cause other P Q (Err refusal) within none right h = stop_within cause other refusal within h

pub reported_within : (cause other : Cause) (P Q P' Q' : List ℕ → Type 0) (result : Result Report Refusal) → Within cause other → (CallsForNone cause → CallsForNone other)
    → ((text : List ℕ) → P text → P' text) → ((text : List ℕ) → Q text → Q' text) → IsReported cause P Q result → IsReported other P' Q' result
reported_within cause other P Q P' Q' (Ok (Whole text)) within none whole shown (none_here, h) = (none none_here, whole text h)
reported_within cause other P Q P' Q' (Ok (Evidence text limit)) within none whole shown (h, is) = (within _ h, shown text is)
reported_within cause other P Q P' Q' (Ok (Network design made)) within none whole shown (none_here, (ready, lawful, drawn)) =
    (none none_here, (ready, lawful, λ text told. whole text (drawn text told)))
reported_within cause other P Q P' Q' (Err refusal) within none whole shown (h, few) = (stop_within cause other refusal within h, few)
