-- The code of as few bits as the states need whose latches read the fewest (source: this project).
use Rattle.std.specs.Prelude.{◌≡◌, ◌⊎◌, ℕ, ◌<◌, ◌≤◌, ◌^◌, List, length, slice_index}
use Rattle.std.specs.Int.{bit_at}
use Rattle.kiss_file.specs.declared.file.KissFile.{KissFile}
use Rattle.state_codes.specs.Agreement.{AreDistinct}
use Rattle.state_codes.specs.Code.{need}
use Rattle.least_codes.specs.Cost.{IsCost}

-- codes of n states of the given number of bits, different for different states
pub record AreCodeWords (n bits : ℕ) (words : List ℕ) : Type 0 where
  pub count : length words ≡ n
  pub short : (s : ℕ) → s < n → slice_index words s < 2 ^ bits
  pub distinct : AreDistinct n words

-- The texts of `words` come before those of `others`. They are compared state by state, bit 0 of each code
-- first. At the first place where they differ, `words` has a 0 and `others` has a 1.
pub record TextsBefore (words others : List ℕ) : Type 0 where
  pub state : ℕ
  pub bit : ℕ
  pub states_before : (s : ℕ) → s < state → slice_index words s ≡ slice_index others s
  pub bits_before : (i : ℕ) → i < bit → bit_at (slice_index words state) i ≡ bit_at (slice_index others state) i
  pub zero : bit_at (slice_index words state) bit ≡ 0
  pub one : bit_at (slice_index others state) bit ≡ 1

-- no codes of as few bits as the states need cost less, and of those that cost the same these have the first
-- texts
pub record IsLeastCode (F : KissFile) (words : List ℕ) : Type 0 where
  pub codes : AreCodeWords (length F.states) (need (length F.states)) words
  pub cost : ℕ
  pub costs : IsCost F words (need (length F.states)) cost
  pub least : (others : List ℕ) (other : ℕ) → AreCodeWords (length F.states) (need (length F.states)) others → IsCost F others (need (length F.states)) other → cost ≤ other
  pub first : (others : List ℕ) → AreCodeWords (length F.states) (need (length F.states)) others → IsCost F others (need (length F.states)) cost → (others ≡ words) ⊎ TextsBefore words others
