-- Symbols and their numbers. A symbol is a list of bits, the first character of its text first.
use Rattle.std.specs.Prelude.{ℕ, ◌+◌, ◌^◌, ◌==◌, zero, suc, Bool, if◌then◌else◌, List, [], ◌∷◌, length, map}
use Rattle.std.specs.List.{range_with_len}
use Rattle.std.specs.Int.{bit_at}

-- the bit of value 2 ^ place of a number
abbrev pub bit : ℕ → ℕ → Bool
bit number place = bit_at number place == 1

-- the character of a bit
abbrev pub digit : Bool → ℕ
digit b = if b then 49 else 48

-- the number that has these bits in binary, the first bit the most significant
unfoldable pub number_of : List Bool → ℕ
number_of [] = 0
number_of (b ∷ bits) = (if b then 2 ^ length bits else 0) + number_of bits

-- the symbol of this many lowest bits of the number, the highest of them first
unfoldable pub symbol_of : ℕ → ℕ → List Bool
symbol_of zero number = []
symbol_of (suc places) number = bit number places ∷ symbol_of places number

-- this many bits of a number, the lowest first
abbrev pub lowest_bits : ℕ → ℕ → List Bool
lowest_bits count number = map (bit number) (range_with_len 0 count)
