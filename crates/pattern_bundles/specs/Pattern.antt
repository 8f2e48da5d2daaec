-- Patterns of 0, 1 and dash, and the items of a list that a word of 64 bits marks.
use Rattle.std.specs.Prelude.{ℕ, ◌≡◌, ◌<◌, ◌↔◌, List, Some, length, slice_get}
use Rattle.std.specs.Int.{bit_at}
use Rattle.pattern_bundles.specs.declared.pattern.Pattern.{Pattern}

-- wherever neither has a dash, both have the same bit
abbrev pub Agree : Pattern → Pattern → Type 0
Agree p q = (place : ℕ) → bit_at p.care place ≡ 1 → bit_at q.care place ≡ 1 → bit_at p.value place ≡ bit_at q.value place

-- the word has a 1 at the places of those patterns of the list for which this holds, and nowhere else
pub record Marks (patterns : List Pattern) (P : Pattern → Type 0) (word : ℕ) : Type 0 where
  pub each : (k : ℕ) (p : Pattern) → slice_get patterns k ≡ Some p → (bit_at word k ≡ 1) ↔ P p
  pub no_more : (k : ℕ) → bit_at word k ≡ 1 → k < length patterns

-- the lowest place at which the word has a 1
pub record IsFirstMark (word k : ℕ) : Type 0 where
  pub marked : bit_at word k ≡ 1
  pub below : k < 64
  pub before : (i : ℕ) → i < k → bit_at word i ≡ 0

-- the one word is the other without the mark at that place
pub record IsWithoutMark (before : ℕ) (k : ℕ) (after : ℕ) : Type 0 where
  pub taken : bit_at after k ≡ 0
  pub kept : (i : ℕ) → (i ≡ k → ⊥) → bit_at after i ≡ bit_at before i
  pub less : after < before
