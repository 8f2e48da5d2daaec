-- Partitions of the states 0 to n - 1 of a machine, as lists of labels, after Hartmanis and Stearns.
use Rattle.std.specs.Prelude.{◌≡◌, ℕ, zero, suc, ◌+◌, ◌<◌, ◌≤◌, ◌↔◌, ◌⊎◌, max, List, [], ◌∷◌, ◌++◌, length, replicate, take, slice_index}

-- the number of blocks that labels name: the greatest label plus 1, or 0 where there are no labels
abbrev pub blocks_of : List ℕ → ℕ
blocks_of [] = 0
blocks_of (label ∷ labels) = max (label + 1) (blocks_of labels)

-- Blocks are numbered by first appearance: label 0 comes first, and each label is at most one more than
-- the greatest before it.
abbrev pub IsNumbered : List ℕ → Type 0
IsNumbered p = (s : ℕ) → s < length p → slice_index p s ≤ blocks_of (take s p)

-- a number of states for which there are partitions
abbrev pub IsStateCount : ℕ → Type 0
IsStateCount n = (0 < n) × (n ≤ 256)

-- the labels are a partition of n states
pub record IsPartition (n : ℕ) (p : List ℕ) : Type 0 where
  pub count : IsStateCount n
  pub length : length p ≡ n
  pub numbered : IsNumbered p

-- the two states are in one block: their labels are equal
abbrev pub Together : List ℕ → ℕ → ℕ → Type 0
Together p s t = (s < length p) × (t < length p) × (slice_index p s ≡ slice_index p t)

-- states that are together in the first are together in the second
abbrev pub Le : List ℕ → List ℕ → Type 0
Le p q = (s t : ℕ) → Together p s t → Together q s t

-- p is below q, and q is not below p
abbrev pub Lt : List ℕ → List ℕ → Type 0
Lt p q = Le p q × (Le q p → ⊥)

-- the two have the same states together
abbrev pub SameTogether : List ℕ → List ℕ → Type 0
SameTogether p q = (s t : ℕ) → Together p s t ↔ Together q s t

-- no two states are together
abbrev pub IsZero : List ℕ → Type 0
IsZero p = (s t : ℕ) → Together p s t → s ≡ t

-- the partition of n states that has no two of them together: the label of each state is its own number
abbrev pub zero_of : ℕ → List ℕ
zero_of zero = []
zero_of (suc n) = zero_of n ++ n ∷ []

-- all states are together
abbrev pub IsOne : List ℕ → Type 0
IsOne p = (s t : ℕ) → s < length p → t < length p → Together p s t

-- the partition of n states that has all of them together: the label of each state is 0
abbrev pub one_of : ℕ → List ℕ
one_of n = replicate n 0

-- neither zero nor one
abbrev pub IsNontrivial : List ℕ → Type 0
IsNontrivial p = (IsZero p → ⊥) × (IsOne p → ⊥)

-- The partition of n states that holds s and t together and nothing else.
pub record IsHold (n s t : ℕ) (p : List ℕ) : Type 0 where
  pub lawful : IsPartition n p
  pub held : Together p s t
  pub nothing_else : (u v : ℕ) → Together p u v → (u ≡ v) ⊎ (((u ≡ s) × (v ≡ t)) ⊎ ((u ≡ t) × (v ≡ s)))
