-- Growth: the generators of the pairs of states are joined to a partition, one after another, as far as a
-- condition allows. It is defined by steps, since it decides which of several right partitions is given
-- (source: this project).
use Rattle.std.specs.Prelude.{◌≡◌, ℕ, ◌+◌, ◌-◌, ◌<◌, ◌⊎◌, List, [], ◌∷◌, map}
use Rattle.std.specs.List.{flat_map, range_with_len}
use Rattle.partition.specs.Partition.{IsPartition, Le}
use Rattle.partition.specs.MeetAndJoin.{IsJoin}

-- the pairs of a state and a greater one, of n states
abbrev pub pairs_from : ℕ → ℕ → List (ℕ × ℕ)
pairs_from n s = map (λ t. (s, t)) (range_with_len (s + 1) (n - (s + 1)))

-- the pairs s < t of n states, in order of s and then of t
abbrev pub pairs_of : ℕ → List (ℕ × ℕ)
pairs_of n = flat_map (pairs_from n) (range_with_len 0 n)

-- next is the join of p with the generator of the pair, if that join meets the condition, and else p
pub record TakesPair (IsGenerator : ℕ → ℕ → List ℕ → Type 0) (Meets : List ℕ → Type 0) (p : List ℕ) (s t : ℕ) (next : List ℕ) : Type 0 where
  pub generator : List ℕ
  pub generates : IsGenerator s t generator
  pub joined : List ℕ
  pub joins : IsJoin p generator joined
  pub taken : (Meets joined × (next ≡ joined)) ⊎ ((Meets joined → ⊥) × (next ≡ p))

-- last is what p becomes when the pairs of the list are taken one after another
abbrev pub GrowsOver : (ℕ → ℕ → List ℕ → Type 0) → (List ℕ → Type 0) → List ℕ → List (ℕ × ℕ) → List ℕ → Type 0
GrowsOver IsGenerator Meets p [] last = p ≡ last
GrowsOver IsGenerator Meets p ((s, t) ∷ pairs) last =
    (next : List ℕ) × TakesPair IsGenerator Meets p s t next × GrowsOver IsGenerator Meets next pairs last

-- the growth of start over all pairs of n states
abbrev pub IsGrowth : (ℕ → ℕ → List ℕ → Type 0) → (List ℕ → Type 0) → ℕ → List ℕ → List ℕ → Type 0
IsGrowth IsGenerator Meets n start last = GrowsOver IsGenerator Meets start (pairs_of n) last

-- for each two states, their generator is below p if some partition above both meets the condition
abbrev pub NoneFits : ℕ → (ℕ → ℕ → List ℕ → Type 0) → (List ℕ → Type 0) → List ℕ → Type 0
NoneFits n IsGenerator Meets p =
    (s t : ℕ) → s < t → t < n → (g : List ℕ) × IsGenerator s t g
    × ((q : List ℕ) → IsPartition n q → Le p q → Le g q → Meets q → Le g p)
