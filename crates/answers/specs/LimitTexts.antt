-- The text of a limit that is exceeded.
use Rattle.std.specs.Prelude.{ℕ, List, ◌++◌, codes}
use Rattle.std.specs.Fmt.{decimal}

-- of what there is too much, and how much was found
abbrev pub over_limit_text : List ℕ → ℕ → List ℕ
over_limit_text what found = codes "over limit " ++ what ++ codes " " ++ decimal found
