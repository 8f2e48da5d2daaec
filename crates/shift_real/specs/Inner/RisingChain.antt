-- The chain so far: the members, and after them the last one.
use Rattle.std.specs.Prelude.{◌≡◌, ◌≤◌, ℕ, ◌+◌, List, [], ◌∷◌, ◌++◌, Some, length, slice_get}
use Rattle.kiss_file.specs.declared.file.KissFile.{KissFile}
use Rattle.pair_operators.specs.Extremes.{IsHigh}
use Rattle.partition.specs.Partition.{IsPartition, IsZero, Lt, blocks_of}
use Rattle.shift_real.specs.Chain.{AreTogetherAfter}

-- the first is zero, and each other is M of the one before it and strictly above it
pub record IsRising (F : KissFile) (members : List (List ℕ)) (last : List ℕ) : Type 0 where
  pub first : (p : List ℕ) × (slice_get (members ++ last ∷ []) 0 ≡ Some p) × IsPartition (length F.states) p × IsZero p
  pub each : (j : ℕ) (p q : List ℕ) → slice_get (members ++ last ∷ []) j ≡ Some p → slice_get (members ++ last ∷ []) (j + 1) ≡ Some q
      → IsHigh F p q × Lt p q
  pub tell : AreTogetherAfter F (members ++ last ∷ [])

-- next is M of the last, and the last has at least one block less for each member before it
pub record IsRisingTo (F : KissFile) (members : List (List ℕ)) (last next : List ℕ) : Type 0 where
  pub rising : IsRising F members last
  pub high : IsHigh F last next
  pub few : length members + blocks_of last ≤ length F.states
