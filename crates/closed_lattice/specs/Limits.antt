-- How far closed partitions grow, and what a growth is for.
use Rattle.std.specs.Prelude.{◌≡◌, ℕ, List}
use Rattle.kiss_file.specs.declared.file.KissFile.{KissFile}
use Rattle.partition.specs.Partition.{Le, Together}
use Rattle.closed_lattice.specs.ClosedPartitions.{IsClosedPartition}

-- no two states are together in both
abbrev pub MeetInZero : List ℕ → List ℕ → Type 0
MeetInZero other p = (s t : ℕ) → Together p s t → Together other s t → s ≡ t

-- s and t are in two blocks
abbrev pub HoldsApart : ℕ → ℕ → List ℕ → Type 0
HoldsApart s t p = Together p s t → ⊥

-- p is a closed partition above start that meets the condition, and no closed partition strictly above p meets it
pub record IsGreatestGrown (F : KissFile) (Meets : List ℕ → Type 0) (start p : List ℕ) : Type 0 where
  pub closed : IsClosedPartition F p
  pub above : Le start p
  pub meets : Meets p
  pub maximal : (q : List ℕ) → IsClosedPartition F q → Le p q → Meets q → Le q p
