-- The state of a shelf in memory.
use Rattle.std.specs.Prelude.{◌≡◌, ◌≢◌, ℕ, List, Option, Some, None, Contains, ◌⊎◌}
use Rattle.std.specs.Map.{lookup}
use Rattle.std.specs.Str.{bytes_eq}
use Rattle.hs_io.specs.Counts.{next_count}

-- texts under names, the numbers of the loads that are to fail, the number of loads so far, and the count of faults
pub record ShelfState : Type 0 where
  pub texts : List (List ℕ × List ℕ)
  pub failing : List ℕ
  pub loads : ℕ
  pub faults : ℕ

-- the text under a name
abbrev pub held : ShelfState → List ℕ → Option (List ℕ)
held shelf name = lookup (bytes_eq name) shelf.texts

-- the next load, which is of this name, is to fail: it is listed, or there is no such name
abbrev pub FailsNext : ShelfState → List ℕ → Type 0
FailsNext shelf name = Contains shelf.failing (next_count shelf.loads) ⊎ (held shelf name ≡ None)

-- the name holds these bytes afterwards, and everything else stays
pub record Replaces (old new : ShelfState) (name bytes : List ℕ) : Type 0 where
  pub changed : held new name ≡ Some bytes
  pub others : (other : List ℕ) → other ≢ name → held new other ≡ held old other
  pub failing : new.failing ≡ old.failing
  pub loads : new.loads ≡ old.loads
  pub faults : new.faults ≡ old.faults
