-- Families of functions from one finite set to another, each function as the list of its values.
use Rattle.std.specs.Prelude.{◌≡◌, ℕ, ◌<◌, ◌≤◌, ◌↔◌, List, [], length, slice_index, slice_index_or}
use Rattle.partition.specs.Partition.{IsPartition, IsStateCount, Le, Together}
use Rattle.io_pairs.specs.declared.family.Family.{Family}

-- the value of a member under the function with the number k
abbrev pub value_at : List (List ℕ) → ℕ → ℕ → ℕ
value_at functions k x = slice_index (slice_index_or functions k []) x

-- there are 1 to 256 members, 1 to 256 values, and at most 256 functions, each of which has a value for each
-- member
pub record AreFunctions (members values : ℕ) (functions : List (List ℕ)) : Type 0 where
  pub some_members : IsStateCount members
  pub some_values : IsStateCount values
  pub few : length functions ≤ 256
  pub each : (k : ℕ) → k < length functions → length (slice_index_or functions k []) ≡ members
  pub below : (k x : ℕ) → k < length functions → x < members → value_at functions k x < values

abbrev pub functions_of : Family → List (List ℕ)
functions_of family = family.functions.items

abbrev pub IsFamily : Family → Type 0
IsFamily family = AreFunctions family.members family.values (functions_of family)

-- each function with a number below the count puts the two members into values that are together
abbrev pub GoBelow : List (List ℕ) → ℕ → List ℕ → ℕ → ℕ → Type 0
GoBelow functions count q x y = (k : ℕ) → k < count → Together q (value_at functions k x) (value_at functions k y)

-- each function puts the two members into values that are together
abbrev pub Go : List (List ℕ) → List ℕ → ℕ → ℕ → Type 0
Go functions q x y = GoBelow functions (length functions) q x y

-- members that are together in p go together
abbrev pub FamilyPair : List (List ℕ) → List ℕ → List ℕ → Type 0
FamilyPair functions p q = (x y : ℕ) → Together p x y → Go functions q x y

-- r is above q, each function with a number below the count puts the two members together in r, and r is below
-- each partition above q in which all functions do so
pub record TiesBelow (functions : List (List ℕ)) (count x y : ℕ) (q r : List ℕ) : Type 0 where
  pub lawful : IsPartition (length q) r
  pub above : Le q r
  pub go : GoBelow functions count r x y
  pub least : (other : List ℕ) → Le q other → Go functions other x y → Le r other

abbrev pub Ties : List (List ℕ) → ℕ → ℕ → List ℕ → List ℕ → Type 0
Ties functions x y q r = TiesBelow functions (length functions) x y q r

-- two members are together in p exactly where each function with a number below the count puts them together in
-- q
pub record IsPartedBelow (members : ℕ) (functions : List (List ℕ)) (count : ℕ) (q p : List ℕ) : Type 0 where
  pub lawful : IsPartition members p
  pub together : (x y : ℕ) → x < members → y < members → Together p x y ↔ GoBelow functions count q x y

abbrev pub IsParted : ℕ → List (List ℕ) → List ℕ → List ℕ → Type 0
IsParted members functions q p = IsPartedBelow members functions (length functions) q p

-- the two members were together in the classes, and the function puts them into values that are together in q
pub record StayTogether (classes function q : List ℕ) (x y : ℕ) : Type 0 where
  pub before : Together classes x y
  pub going : Together q (slice_index function x) (slice_index function y)

-- the classes, split by the values of a function in q
pub record IsSplit (classes function q p : List ℕ) : Type 0 where
  pub lawful : IsPartition (length classes) p
  pub together : (x y : ℕ) → x < length classes → y < length classes → Together p x y ↔ StayTogether classes function q x y

-- for each partition and each two members, the two relations say the same
abbrev pub SameGoing : ℕ → (List ℕ → ℕ → ℕ → Type 0) → (List ℕ → ℕ → ℕ → Type 0) → Type 0
SameGoing members One Other = (q : List ℕ) (x y : ℕ) → x < members → y < members → One q x y ↔ Other q x y
