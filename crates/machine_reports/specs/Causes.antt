-- The refusals that a machine calls for.
use Rattle.std.specs.Prelude.{◌≡◌, ℕ, ◌<◌, Bool, List, [], ◌∷◌, Some, length, slice_get}
use Rattle.answers.specs.Cause.{Cause, FirstOf}
use Rattle.answers.specs.declared.refusals.Refusal.TheVariants.{More, NotDefinite, TooManyInputs, TooManyOutputs}
use Rattle.state_reduce.specs.Work.{OnWork}
use Rattle.hs_lattice.specs.Listing.{Evidence}
use Rattle.io_pairs.specs.Inputs.{IsInMmPair}
use Rattle.io_pairs.specs.Outputs.{IsOutMmPair, occurring}
use Rattle.partition.specs.Sides.{RightBefore}
use Rattle.kiss_file.specs.declared.file.KissFile.{KissFile}
use Rattle.shift_real.specs.DefiniteMachine.{AreFirstApart}

-- there are more values with the property than the limit, as limit + 1 of them in order show
abbrev pub MoreThan : {M : Type 0} → (M → M → Type 0) → (M → Type 0) → ℕ → Cause
MoreThan {M} precedes P limit refusal = (refusal ≡ More limit) × ((members : List M) × Evidence precedes P limit members)

-- for every length, some word of that length keeps two states of a machine apart: the refusal names the least two
-- such states
abbrev pub KeepsApart : KissFile → Cause
KeepsApart W refusal =
    (s t : ℕ) × (name other : List ℕ) × (refusal ≡ NotDefinite name other)
    × AreFirstApart W s t × (slice_get W.states s ≡ Some name) × (slice_get W.states t ≡ Some other)

-- the machine that a command works on is not definite
abbrev pub NotDefiniteRow : Bool → KissFile → Cause
NotDefiniteRow reduce F refusal = OnWork reduce F (λ W. KeepsApart W refusal)

-- the machine has more inputs than pairs of symbols and states are made for
abbrev pub TooManyInputsRow : KissFile → Cause
TooManyInputsRow F refusal = (refusal ≡ TooManyInputs F.inputs) × (8 < F.inputs)

-- more outputs occur than a partition has labels for
abbrev pub TooManyOutputsRow : KissFile → Cause
TooManyOutputsRow F refusal = (refusal ≡ TooManyOutputs) × (256 < length (occurring F))

-- ---- in the order of judgement
abbrev pub RefusesInputPairs : KissFile → ℕ → Cause
RefusesInputPairs F limit = FirstOf (TooManyInputsRow F ∷ MoreThan RightBefore (IsInMmPair F) limit ∷ [])

abbrev pub RefusesOutputPairs : KissFile → ℕ → Cause
RefusesOutputPairs F limit = FirstOf (TooManyInputsRow F ∷ TooManyOutputsRow F ∷ MoreThan RightBefore (IsOutMmPair F) limit ∷ [])
