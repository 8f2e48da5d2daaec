-- The refusal of an operand that was not loaded.
use Rattle.std.specs.Prelude.{◌≡◌, ◌⊎◌, ℕ, List}
use Rattle.answers.specs.declared.refusals.Refusal.{Refusal}
use Rattle.answers.specs.declared.refusals.Refusal.TheVariants.{NoMemory, TooLong, Unreadable}
use Rattle.hs_io.specs.declared.shelf.LoadFail.{LoadFail}
use Rattle.hs_io.specs.declared.shelf.LoadFail.TheVariants as fails

-- memory ran out, or the refusal names what could not be read or is too long
abbrev pub IsLoadRefusal : List ℕ → LoadFail → Refusal → Type 0
IsLoadRefusal name fail refusal =
    (refusal ≡ NoMemory) ⊎ ((fail ≡ fails.Failed) × (refusal ≡ Unreadable name)) ⊎ ((fail ≡ fails.TooLong) × (refusal ≡ TooLong name))
