-- Lists of pairs of states, with a table of those that are in the list.
use Rattle.std.specs.Prelude.{ℕ, ◌+◌, ◌*◌, ◌/◌, ◌%◌, ◌≡◌, ◌≢◌, ◌<◌, ◌≤◌, ◌↔◌, AllPairs, Contains, List, length, slice_index_or}
use Rattle.std.specs.Int.{bit_at}

-- pairs of so many states
pub record PairsOf : Type 0 where
  pub pairs : List (ℕ × ℕ)
  pub states : ℕ

-- the word of the table that has the bit of a pair; the bit is at the place of the second state modulo 64
abbrev pub word_of_pair : ℕ → ℕ → ℕ
word_of_pair u v = u * 4 + v / 64

-- each pair is in the list once, and the table says of each pair of states whether it is
pub record AreSeen (pairs : List (ℕ × ℕ)) (seen : List ℕ) (states : ℕ) : Type 0 where
  pub few : states ≤ 256
  pub size : length seen ≡ states * 4
  pub each : (u v : ℕ) → u < states → v < states → (bit_at (slice_index_or seen (word_of_pair u v) 0) (v % 64) ≡ 1) ↔ Contains pairs (u, v)
  pub once : AllPairs (λ a b. a ≢ b) pairs

-- both states of each pair of the relation are below the count
abbrev pub AreStates : ℕ → (ℕ → ℕ → Type 0) → Type 0
AreStates states P = (u v : ℕ) → P u v → (u < states) × (v < states)
