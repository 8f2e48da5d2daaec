-- A map from names to their numbers.
use Rattle.std.specs.Prelude.{◌≡◌, ℕ, List, Option, Vec}
use Rattle.std.specs.BTreeMap.{BTreeMap, get_by}
use Rattle.std.specs.Cmp.Lexicographic.{slice_cmp}
use Rattle.std.specs.List.{position_from}
use Rattle.std.specs.Ordering.{nat_cmp}
use Rattle.std.specs.Str.{bytes_eq}

-- the number of a name, if the map has the name
abbrev pub number_of : {A : Type 0} → BTreeMap (Vec ℕ A) ℕ → List ℕ → Option ℕ
number_of numbers name = get_by (λ key. slice_cmp nat_cmp name key.items) numbers

-- the number of each name of the list is its place, and the map has no other name
abbrev pub AreKeyed : {A : Type 0} → List (List ℕ) → BTreeMap (Vec ℕ A) ℕ → Type 0
AreKeyed names numbers = (name : List ℕ) → number_of numbers name ≡ position_from (bytes_eq name) 0 names
