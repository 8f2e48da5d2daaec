-- The refusal that names two states.
use Rattle.std.specs.Prelude.{◌≡◌, ℕ, List, Some, slice_get}
use Rattle.answers.specs.declared.refusals.Refusal.{Refusal}
use Rattle.answers.specs.declared.refusals.Refusal.TheVariants.{NotApart}
use Rattle.kiss_file.specs.declared.file.KissFile.{KissFile}

-- the refusal has the names of the states s and t
abbrev pub NamesStates : KissFile → ℕ → ℕ → Refusal → Type 0
NamesStates W s t refusal =
    (state other : List ℕ) × (refusal ≡ NotApart state other) × (slice_get W.states s ≡ Some state) × (slice_get W.states t ≡ Some other)
