-- Meet and join of two partitions of the same states, after Hartmanis and Stearns.
use Rattle.std.specs.Prelude.{◌≡◌, ℕ, ◌<◌, ◌↔◌, ◌⊎◌, List, [], ◌∷◌, length}
use Rattle.partition.specs.Partition.{IsPartition, Together, Le}

-- states are together in the meet exactly where they are together in both
pub record IsMeet (p q r : List ℕ) : Type 0 where
  pub lawful : IsPartition (length p) r
  pub together : (s t : ℕ) → Together r s t ↔ (Together p s t × Together q s t)

-- The list leads from s to t: of s and the states of the list, each is together with the next in p or in q, and the
-- last is t.
abbrev pub Leads : List ℕ → List ℕ → ℕ → List ℕ → ℕ → Type 0
Leads p q s [] t = s ≡ t
Leads p q s (u ∷ us) t = (Together p s u ⊎ Together q s u) × Leads p q u us t

-- a finite chain of states leads from s to t
abbrev pub Chain : List ℕ → List ℕ → ℕ → ℕ → Type 0
Chain p q s t = (s < length p) × ((us : List ℕ) × Leads p q s us t)

-- states are together in the join exactly where a finite chain of states leads from the one to the other
pub record IsJoin (p q r : List ℕ) : Type 0 where
  pub lawful : IsPartition (length p) r
  pub together : (s t : ℕ) → Together r s t ↔ Chain p q s t

-- the greatest partition that is below both
pub record IsGreatestBelow (p q r : List ℕ) : Type 0 where
  pub lawful : IsPartition (length p) r
  pub left : Le r p
  pub right : Le r q
  pub greatest : (other : List ℕ) → IsPartition (length p) other → Le other p → Le other q → Le other r

-- the least partition that is above both
pub record IsLeastAbove (p q r : List ℕ) : Type 0 where
  pub lawful : IsPartition (length p) r
  pub left : Le p r
  pub right : Le q r
  pub least : (other : List ℕ) → IsPartition (length p) other → Le p other → Le q other → Le r other
