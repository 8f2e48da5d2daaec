-- What a part of a feedback split has to know of the other part (source: Hartmanis and Stearns; this project).
use Rattle.std.specs.Prelude.{◌≡◌, ℕ, Bool, List, length}
use Rattle.kiss_file.specs.declared.file.KissFile.{KissFile}
use Rattle.kiss_file.specs.Machine.{next}
use Rattle.partition.specs.Partition.{IsHold, IsPartition, Le, Together}
use Rattle.pair_operators.specs.Growth.{IsGrowth}

-- (own . c, own) is a pair: states that are together in own and in c go, for each symbol, to states that are
-- together in own. So the block of own and the block of c determine the next block of own.
abbrev pub Suffices : KissFile → List ℕ → List ℕ → Type 0
Suffices F own c =
    (s t : ℕ) (x : List Bool) → Together own s t → Together c s t → length x ≡ F.inputs → Together own (next F s x) (next F t x)

-- c is the growth of other, over the partitions that hold two states together, as far as it suffices for own
abbrev pub IsCarrierGrowth : KissFile → List ℕ → List ℕ → List ℕ → Type 0
IsCarrierGrowth F own other c = IsGrowth (IsHold (length F.states)) (Suffices F own) (length F.states) other c

-- a partition above other that suffices for own, such that no partition strictly above it suffices
pub record IsGreatestCarrier (F : KissFile) (own other c : List ℕ) : Type 0 where
  pub lawful : IsPartition (length F.states) c
  pub above : Le other c
  pub suffices : Suffices F own c
  pub maximal : (q : List ℕ) → IsPartition (length F.states) q → Le c q → Suffices F own q → Le q c
