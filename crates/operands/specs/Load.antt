-- The outcome of loading an operand.
use Rattle.std.specs.Prelude.{◌≡◌, ◌⊎◌, ℕ, List, Option, Result, Ok, Err}
use Rattle.answers.specs.declared.refusals.Refusal.{Refusal}
use Rattle.answers.specs.declared.refusals.Refusal.TheVariants.{NoMemory, Unreadable}
use Rattle.answers.specs.Cause.{Cause}
use Rattle.operands.specs.OperandText.{IsText, Lengthy, MayBe}

-- memory ran out, the load failed, or the bytes call for the refusal
abbrev pub IsStopAt : Option (List ℕ) → Type 0 → List ℕ → (List ℕ → Cause) → Refusal → Type 0
IsStopAt held Faulted name cause refusal =
    (refusal ≡ NoMemory) ⊎ ((refusal ≡ Unreadable name) × Faulted) ⊎ ((bytes : List ℕ) × MayBe held bytes × cause bytes refusal)

-- the possible results of loading a name; `held` is what the shelf holds under it, and `Faulted` says that the
-- shelf's count of faults rose
abbrev pub IsLoaded : Option (List ℕ) → Type 0 → List ℕ → Result (List ℕ) Refusal → Type 0
IsLoaded held Faulted name (Ok bytes) = IsText held bytes
IsLoaded held Faulted name (Err refusal) = IsStopAt held Faulted name (Lengthy name) refusal
