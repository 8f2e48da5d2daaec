-- The figures of a trial (source: this product's profile).
use Rattle.std.specs.Prelude.{◌≡◌, ℕ, ◌≤◌, ◌%◌, ◌^◌, Bool, List, Option, Some, None, count_by, length, map}
use Rattle.std.specs.List.{flat_map, range_with_len}
use Rattle.closed_lattice.specs.ClosedPartitions.{IsClosedPartition}
use Rattle.cubes.specs.Symbol.{symbol_of}
use Rattle.hs_lattice.specs.Listing.{Evidence, Lists}
use Rattle.hs_texts.specs.declared.reports.TrialFigures.{TrialFigures}
use Rattle.kiss_file.specs.declared.file.KissFile.{KissFile}
use Rattle.kiss_file.specs.Machine.{answers}
use Rattle.partition.specs.Order.{Before}
use Rattle.partition.specs.Partition.{blocks_of}
use Rattle.state_codes.specs.declared.split.Part.{Part}
use Rattle.state_codes.specs.Code.{IsLength}

-- the 1,000 symbols of its run: symbol j is the one whose number is j modulo the number of symbols
abbrev pub trial_word : ℕ → List (List Bool)
trial_word inputs = map (λ j. symbol_of inputs (j % 2 ^ inputs)) (range_with_len 0 1000)

-- the number of outputs of a run that are 1
abbrev pub ones_in : List (List Bool) → ℕ
ones_in outputs = count_by (λ bit. bit) (flat_map (λ answer. answer) outputs)

-- the number of the closed partitions of the machine, or None if there are more than 1,000
abbrev pub IsClosedCount : KissFile → Option ℕ → Type 0
IsClosedCount F (Some count) = (members : List (List ℕ)) × Lists Before (IsClosedPartition F) members × (count ≡ length members) × (count ≤ 1000)
IsClosedCount F None = (members : List (List ℕ)) × Evidence Before (IsClosedPartition F) 1000 members

-- the figures are those of the numbers, of their machine, and of its parts
pub record AreFigures (seed a b k : ℕ) (F : KissFile) (parts : List Part) (figures : TrialFigures) : Type 0 where
  pub seed_is : figures.seed ≡ seed
  pub a_is : figures.a ≡ a
  pub b_is : figures.b ≡ b
  pub k_is : figures.k ≡ k
  pub states : figures.states ≡ length F.states
  pub closed : IsClosedCount F figures.closed
  pub blocks : figures.parts ≡ map (λ part. blocks_of part.partition) parts
  pub latches : IsLength parts figures.latches
  pub ones : figures.ones ≡ ones_in (answers F F.reset (trial_word F.inputs))
