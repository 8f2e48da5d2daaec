-- Growth that passes over pairs.
use Rattle.std.specs.Prelude.{ℕ, ◌⊎◌, List, length}
use Rattle.kiss_file.specs.declared.file.KissFile.{KissFile}
use Rattle.partition.specs.Partition.{IsPartition, Le, Together}
use Rattle.closed_lattice.specs.ClosedPartitions.{IsClosedPartition}

-- a closed partition that either meets the condition or does not
abbrev pub IsSettled : KissFile → (List ℕ → Type 0) → List ℕ → Type 0
IsSettled F Meets p = IsClosedPartition F p × (Meets p ⊎ (Meets p → ⊥))

-- no partition above p that holds s and t together meets the condition
abbrev pub NeverHolds : (List ℕ → Type 0) → List ℕ → ℕ → ℕ → Type 0
NeverHolds Meets p s t = (q : List ℕ) → IsPartition (length p) q → Le p q → Together q s t → Meets q → ⊥
