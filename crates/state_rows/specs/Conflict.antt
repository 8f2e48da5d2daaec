-- The first two rows that contradict one another.
use Rattle.std.specs.Prelude.{ℕ, ◌≡◌, ◌<◌, ◌≤◌, ◌⊎◌, List, Some, slice_get}
use Rattle.cubes.specs.Cube.{Meets}
use Rattle.kiss_file.specs.declared.file.KissRow.{KissRow}
use Rattle.kiss_file.specs.Machine.{GiveBoth, NameTwo}

-- the rows belong to one state and share a symbol, and name different next states or give 0 and 1 at one output
pub record Contradicts (row other : KissRow) : Type 0 where
  pub state : row.from ≡ other.from
  pub symbol : Meets row.cube other.cube
  pub said : NameTwo row other ⊎ (GiveBoth row other ⊎ GiveBoth other row)

-- the rows with these numbers, counted from 0, contradict one another
abbrev pub ContradictAt : List KissRow → ℕ → ℕ → Type 0
ContradictAt rows i j = (row other : KissRow) × (slice_get rows i ≡ Some row) × (slice_get rows j ≡ Some other) × Contradicts row other

-- the first two such rows: the later row is the least possible, and then the earlier row
pub record AreFirstTwo (rows : List KissRow) (i j : ℕ) : Type 0 where
  pub order : i < j
  pub contradict : ContradictAt rows i j
  pub first : (k l : ℕ) → k < l → ContradictAt rows k l → (j < l) ⊎ ((j ≡ l) × (i ≤ k))
