-- What a load of an operand gives, where its name and its bytes are lent.
use Rattle.std.specs.Prelude.{◌≡◌, ℕ, List, Option}
use Rattle.std.proofs.Common.{sym, subst}
use Rattle.answers.specs.declared.refusals.Refusal.{Refusal}
use Rattle.operands.specs.Load.{IsStopAt}
use Rattle.operands.specs.OperandText.{IsText, Lengthy}

-- the text of an operand, lent by another name of it
pub text_of_load : (holds : List ℕ → Option (List ℕ)) (name file text bytes : List ℕ) → IsText (holds name) text → name ≡ file → bytes ≡ text → IsText (holds file) bytes
text_of_load holds name file text bytes is same lent = subst (λ (n : List ℕ). IsText (holds n) bytes) same (subst (IsText (holds name)) (sym lent) is)

-- a load that gave none
pub stop_of_load : (holds : List ℕ → Option (List ℕ)) (Faulted : Type 0) (name file : List ℕ) (refusal : Refusal) → IsStopAt (holds name) Faulted name (Lengthy name) refusal → name ≡ file → IsStopAt (holds file) Faulted file (Lengthy file) refusal
stop_of_load holds Faulted name file refusal stop same = subst (λ (n : List ℕ). IsStopAt (holds n) Faulted n (Lengthy n) refusal) same stop
