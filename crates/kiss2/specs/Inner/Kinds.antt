-- The kinds of line, by the words that are looked for last.
use Rattle.std.specs.Prelude.{ℕ, if◌then◌else◌, List, codes}
use Rattle.std.specs.Str.{bytes_eq}
use Rattle.kiss2.specs.declared.line_kind.LineKind.{LineKind}
use Rattle.kiss2.specs.declared.line_kind.LineKind.TheVariants.{Reset, InputNames, OutputNames, Unknown, Row}
use Rattle.kiss2.specs.Words.{is_dotted}

-- what a line with this first field is, if the field is neither an ending word nor the word of a number
abbrev pub kind_of_later_word : List ℕ → LineKind
kind_of_later_word field =
    if bytes_eq field (codes ".r") then Reset
    else if bytes_eq field (codes ".ilb") then InputNames
    else if bytes_eq field (codes ".ob") then OutputNames
    else if is_dotted field then Unknown
    else Row
