-- Pairs of states that wait to be put together.
use Rattle.std.specs.Prelude.{◌≡◌, ℕ, ◌<◌, ◌⊎◌, Contains, List}
use Rattle.kiss_file.specs.declared.file.KissFile.{KissFile}
use Rattle.machine_table.specs.Pieces.{IsImage}
use Rattle.partition.specs.Partition.{Together}

-- each pair is of states below the count
abbrev pub AreStates : ℕ → List (ℕ × ℕ) → Type 0
AreStates count pairs = (u v : ℕ) → Contains pairs (u, v) → (u < count) × (v < count)

-- each pair is together in p
abbrev pub AreTogether : List ℕ → List (ℕ × ℕ) → Type 0
AreTogether p pairs = (u v : ℕ) → Contains pairs (u, v) → Together p u v

-- each pair that was taken off is together in p
pub record LeavesOut (p : List ℕ) (old new : List (ℕ × ℕ)) : Type 0 where
  pub kept : (u v : ℕ) → Contains new (u, v) → Contains old (u, v)
  pub taken : (u v : ℕ) → Contains old (u, v) → Contains new (u, v) ⊎ Together p u v

-- a pair in two blocks of p was taken off, and before it pairs that are together
pub record TakesApart (p : List ℕ) (old : List (ℕ × ℕ)) (s t : ℕ) (new : List (ℕ × ℕ)) : Type 0 where
  pub among : Contains old (s, t)
  pub apart : Together p s t → ⊥
  pub kept : (u v : ℕ) → Contains new (u, v) → Contains old (u, v)
  pub taken : (u v : ℕ) → Contains old (u, v) → Contains new (u, v) ⊎ (((u ≡ s) × (v ≡ t)) ⊎ Together p u v)

-- the pairs of next states of s and t were added
pub record AddsImages (F : KissFile) (s t : ℕ) (old new : List (ℕ × ℕ)) : Type 0 where
  pub kept : (u v : ℕ) → Contains old (u, v) → Contains new (u, v)
  pub added : (u v : ℕ) → IsImage F s t u v → Contains new (u, v)
  pub only : (u v : ℕ) → Contains new (u, v) → Contains old (u, v) ⊎ IsImage F s t u v
