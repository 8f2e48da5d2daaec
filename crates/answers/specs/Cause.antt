-- Causes: which refusals, with the values that show them, something calls for, and which of several causes is
-- judged first.
use Rattle.std.specs.Prelude.{◌≡◌, ◌⊎◌, List, [], ◌∷◌}
use Rattle.answers.specs.declared.refusals.Refusal.{Refusal}

-- a cause says of each refusal whether it is called for
abbrev pub Cause : Type 1
Cause = Refusal → Type 0

-- the cause calls for no refusal
abbrev pub CallsForNone : Cause → Type 0
CallsForNone cause = (refusal : Refusal) → cause refusal → ⊥

-- the first of some causes that calls for a refusal, in the order of judgement
abbrev pub FirstOf : List Cause → Cause
FirstOf [] refusal = ⊥
FirstOf (cause ∷ later) refusal = cause refusal ⊎ (CallsForNone cause × FirstOf later refusal)
