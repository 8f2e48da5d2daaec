-- For private functions and proofs only: which generators are picked, and what the pass of a generator over the
-- known values adds.
use Rattle.std.specs.Prelude.{◌⊎◌, List}
use Rattle.hs_lattice.specs.Collection.{Adds, IsAscending, Knows}

-- an ascending list of items; the value of each is also the value of one of `others`
pub record IsPicked {X M : Type 0} (meaning : X → M) (precedes : M → M → Type 0) (others items : List X) : Type 0 where
  pub ascending : IsAscending meaning precedes items
  pub from : (z : M) → Knows meaning items z → Knows meaning others z

-- the two values have a join, and it is known
abbrev pub KnowsJoin : {X M : Type 0} → (X → M) → (M → M → M → Type 0) → List X → M → M → Type 0
KnowsJoin {X} {M} meaning joins known g v = (z : M) × joins g v z × Knows meaning known z

-- the two values have a join, and it is added
abbrev pub AddsJoin : {X M : Type 0} → (X → M) → (M → M → M → Type 0) → List X → M → M → List X → Type 0
AddsJoin {X} {M} meaning joins known g v new_known = (z : M) × joins g v z × Adds meaning known z new_known

-- what was known stays known, and what is new is the join of the generator and a value that was known
pub record Extends {X M : Type 0} (meaning : X → M) (joins : M → M → M → Type 0) (known : List X) (g : M) (new_known : List X) : Type 0 where
  pub kept : (z : M) → Knows meaning known z → Knows meaning new_known z
  pub only : (z : M) → Knows meaning new_known z → Knows meaning known z ⊎ ((x : M) × Knows meaning known x × joins g x z)

-- the generator has a join with each value that was known, and these joins are known now
abbrev pub KnowsJoins : {X M : Type 0} → (X → M) → (M → M → M → Type 0) → List X → M → List X → Type 0
KnowsJoins {X} {M} meaning joins known g new_known = (v : M) → Knows meaning known v → KnowsJoin meaning joins new_known g v
