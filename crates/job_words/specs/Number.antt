-- A number in a command line: one to nine decimal digits, leading zeros allowed.
use Rattle.std.specs.Prelude.{ℕ, Bool, not, ◌&&◌, ◌==◌, nat_le, List, length}
use Rattle.std.specs.Str.{all_ascii_digits}
use Rattle.std.specs.Str.Parse.{digits_value}

abbrev pub is_number : List ℕ → Bool
is_number word = not (length word == 0) && nat_le (length word) 9 && all_ascii_digits word

-- the value of a number
abbrev pub value_of : List ℕ → ℕ
value_of word = digits_value 10 word

-- a number in a range, both ends included
abbrev pub is_within : ℕ → ℕ → List ℕ → Bool
is_within low high word = is_number word && nat_le low (value_of word) && nat_le (value_of word) high
