-- Bits in words of 64.
use Rattle.std.specs.Prelude.{ℕ, ◌/◌, ◌%◌, List, slice_index}
use Rattle.std.specs.Int.{bit_at}

-- bit t is the bit of value 2 ^ (t modulo 64) in the word whose number is t divided by 64, rounded down
abbrev pub bit_of : List ℕ → ℕ → ℕ
bit_of words t = bit_at (slice_index words (t / 64)) (t % 64)
