-- Names made of the letter s and a number.
use Rattle.std.specs.Prelude.{ℕ, List, ◌++◌, codes, map}
use Rattle.std.specs.Fmt.{decimal}
use Rattle.std.specs.List.{range_with_len}

-- the name with a number
abbrev pub numbered_name : ℕ → List ℕ
numbered_name number = codes "s" ++ decimal number

-- the names with the numbers below a count, in the order of their numbers
abbrev pub numbered_names : ℕ → List (List ℕ)
numbered_names count = map numbered_name (range_with_len 0 count)
