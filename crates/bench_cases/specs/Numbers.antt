-- Numbers that look as if drawn at random.
use Rattle.std.specs.Prelude.{ℕ, ◌+◌, ◌*◌, ◌/◌, ◌%◌, ◌^◌, bit_xor}

-- a number with its front part laid over its end
abbrev pub folded : ℕ → ℕ → ℕ
folded number places = bit_xor number (number / 2 ^ places)

-- the two numbers, each times a large odd one, as one number below 2 ^ 64
abbrev pub joined : ℕ → ℕ → ℕ
joined first second = (first * 11400714819323198485 + second * 14029467366897019727) % 2 ^ 64

-- the number that two numbers draw
abbrev pub drawn_number : ℕ → ℕ → ℕ
drawn_number first second = folded (folded (joined first second) 29 * 13787848793156543929 % 2 ^ 64) 32
