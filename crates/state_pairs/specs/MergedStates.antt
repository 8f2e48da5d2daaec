-- The next states of two states, merged in a partition of the states.
use Rattle.std.specs.Prelude.{ℕ, List, length}
use Rattle.kiss_file.specs.declared.file.KissFile.{KissFile}
use Rattle.state_pairs.specs.Pairs.{IsImage}
use Rattle.partition.specs.Partition.{IsPartition, Le, Together}

-- r is the least partition above q that holds together the two states of each pair of the relation
pub record MergesPairs (P : ℕ → ℕ → Type 0) (q r : List ℕ) : Type 0 where
  pub lawful : IsPartition (length q) r
  pub above : Le q r
  pub held : (u v : ℕ) → P u v → Together r u v
  pub least : (other : List ℕ) → IsPartition (length q) other → Le q other → ((u v : ℕ) → P u v → Together other u v) → Le r other

-- the same for the next states of s and t at each symbol
abbrev pub MergesImages : KissFile → (s t : ℕ) → List ℕ → List ℕ → Type 0
MergesImages F s t = MergesPairs (IsImage F s t)
