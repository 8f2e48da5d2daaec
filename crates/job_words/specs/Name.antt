-- A name in a command line, of a model or of a clock: 1 to 64 visible bytes of ASCII without `#` and `\`.
use Rattle.std.specs.Prelude.{ℕ, ◌==◌, Bool, not, ◌&&◌, nat_le, List, length, codes}
use Rattle.std.specs.List.{list_all}
use Rattle.std.specs.Str.{bytes_eq}

abbrev pub is_given_byte : ℕ → Bool
is_given_byte byte = nat_le 33 byte && nat_le byte 126 && not (byte == 35) && not (byte == 92)

-- a word is such a name
abbrev pub is_model_name : List ℕ → Bool
is_model_name word = not (length word == 0) && nat_le (length word) 64 && list_all is_given_byte word

-- a word is the name of a clock: in a latch line `NIL` says that there is none
abbrev pub is_clock_name : List ℕ → Bool
is_clock_name word = is_model_name word && not (bytes_eq word (codes "NIL"))
