-- Joins of lists of values, in any world of values with a least one and a join.
use Rattle.std.specs.Prelude.{List, [], ◌∷◌, Contains}
use Rattle.std.specs.List.{AllByRecursion}

-- the value is the join of the list: the least value if the list is empty, and otherwise the join of the first
-- value and the join of the rest
abbrev pub IsJoinOf : {M : Type 0} → (M → Type 0) → (M → M → M → Type 0) → List M → M → Type 0
IsJoinOf least joins [] z = least z
IsJoinOf {M} least joins (x ∷ xs) z = (y : M) × IsJoinOf least joins xs y × joins x y z

-- the value is the join of some list of generators
abbrev pub IsGenerated : {M : Type 0} → (M → Type 0) → (M → M → M → Type 0) → List M → M → Type 0
IsGenerated {M} least joins generators z =
    (chosen : List M) × AllByRecursion (Contains generators) chosen × IsJoinOf least joins chosen z

-- each list of generators has a join
abbrev pub HaveJoins : {M : Type 0} → (M → Type 0) → (M → M → M → Type 0) → List M → Type 0
HaveJoins {M} least joins generators =
    (chosen : List M) → AllByRecursion (Contains generators) chosen → (z : M) × IsJoinOf least joins chosen z
