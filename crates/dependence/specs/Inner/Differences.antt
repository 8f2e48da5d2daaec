-- Which latches tell two states apart.
use Rattle.std.specs.Prelude.{◌≡◌, ℕ, ◌+◌, ◌*◌, ◌<◌, Contains, List, Option, Some, length, slice_get}
use Rattle.kiss_file.specs.declared.file.KissFile.{KissFile}
use Rattle.state_pairs.specs.Pairs.{HaveOneBit}
use Rattle.dependence.specs.Bit.{GiveTheSame}
use Rattle.dependence.specs.SufficientBits.{InWord, next_value}

-- the words of the two states of some pair differ at the bit
pub record DifferInPair (words : List ℕ) (pairs : List (ℕ × ℕ)) (i : ℕ) : Type 0 where
  pub u : ℕ
  pub v : ℕ
  pub among : Contains pairs (u, v)
  pub differ : HaveOneBit words i u v → ⊥

-- the set has exactly the latches whose gates do not give the same at s and t
pub record IsDifference (F : KissFile) (words : List ℕ) (s t set : ℕ) : Type 0 where
  pub same : (i : ℕ) → (InWord set i → ⊥) → GiveTheSame F (next_value F words i) s t
  pub apart : (i : ℕ) → InWord set i → GiveTheSame F (next_value F words i) s t → ⊥

-- a table with a place for each two states: what stands there has the latches that tell them apart
pub record AreFound (F : KissFile) (words : List ℕ) (found : List (Option ℕ)) : Type 0 where
  pub size : length found ≡ 256 * length F.states
  pub each : (s t set : ℕ) → s < length F.states → t < length F.states → slice_get found (256 * s + t) ≡ Some (Some set) → IsDifference F words s t set
