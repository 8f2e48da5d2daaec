-- The first number of prefixes at which own names are free, found by tests in order.
use Rattle.std.specs.Prelude.{ℕ, zero, suc, ◌+◌, Bool, not, if◌then◌else◌, List}
use Rattle.std.specs.List.{list_any}
use Rattle.std.specs.Str.{bytes_eq}
use Rattle.kiss_file.specs.declared.file.KissFile.{KissFile}
use Rattle.kiss_file.specs.LawfulFile.{given_names}
use Rattle.realise.specs.Names.{used_names}

-- the file gives the name
abbrev pub is_given : KissFile → List ℕ → Bool
is_given F name = list_any (bytes_eq name) (given_names F)

-- no own name in use in a network with that number of latches is a given one
unfoldable pub are_free : KissFile → ℕ → ℕ → Bool
are_free F latches count = not (list_any (is_given F) (used_names F latches count))

-- the first number from count on at which own names are free, with at most that number of tries
unfoldable pub first_free : ℕ → KissFile → ℕ → ℕ → ℕ
first_free zero F latches count = count
first_free (suc tries) F latches count = if are_free F latches count then count else first_free tries F latches (count + 1)

-- how often the prefix comes before each own name; with 22 prefixes an own name is longer than a given name may be
unfoldable pub first_count : KissFile → ℕ → ℕ
first_count F latches = first_free 22 F latches 0
