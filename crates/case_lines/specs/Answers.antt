-- What an answer holds, and what it holds after a piece.
use Rattle.std.specs.Prelude.{◌≡◌, ℕ, List, ◌++◌, Bool, false}

-- the bytes so far, and whether the answer has failed
pub record AnswerState : Type 0 where
  pub bytes : List ℕ
  pub failed : Bool

-- the piece was added, or the answer has failed: it can be without failure only if it was so before
abbrev pub Adds : AnswerState → List ℕ → AnswerState → Type 0
Adds old piece new = new.failed ≡ false → (old.failed ≡ false) × (new.bytes ≡ old.bytes ++ piece)
