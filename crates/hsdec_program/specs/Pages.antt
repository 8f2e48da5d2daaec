-- The pages of `--help` and `--version`, and which words ask for them.
use Rattle.std.specs.Prelude.{ℕ, if◌then◌else◌, List, [], ◌∷◌, ◌++◌, Option, Some, None, codes}
use Rattle.std.specs.List.{flat_map}
use Rattle.std.specs.Option.{option_map}
use Rattle.std.specs.Str.{bytes_eq}
use Rattle.hs_io.specs.Spelling.{ended, spaced}
use Rattle.job_words.specs.declared.command.Command.{Command}
use Rattle.job_words.specs.declared.table.CommandOption.{CommandOption}
use Rattle.job_words.specs.declared.table.CommandOption.TheVariants.{Limit, Reduce, Start, Fill, Names, Clock, Model}
use Rattle.job_words.specs.declared.table.OperandKind.{OperandKind}
use Rattle.job_words.specs.declared.table.OperandKind.TheVariants as kinds
use Rattle.job_words.specs.Command.{command_word}
use Rattle.job_words.specs.Job.{row_named}
use Rattle.job_words.specs.Table.{Row, built}
use Rattle.hsdec_program.specs.declared.groups.Group.{Group}
use Rattle.hsdec_program.specs.declared.groups.Group.TheVariants.{Look, Split, Code, Run, Make}
use Rattle.hsdec_program.specs.Groups.{group_of, heading_of, same_group}
use Rattle.hsdec_program.specs.Phrases.{example_of, making_of, operand_note, operand_word, option_note, option_words, phrase_of}

-- a line for each operand, and for each option
abbrev pub operand_lines : List OperandKind → List ℕ
operand_lines operands = flat_map (λ kind. ended (operand_note kind)) operands

abbrev pub option_lines : List CommandOption → List ℕ
option_lines options = flat_map (λ option. ended (option_note option)) options

-- the words of a command: its own, its operands and its options
abbrev pub form_words : Row → List ℕ
form_words row =
    codes "  hsdec " ++ command_word row.command ++ flat_map (λ kind. spaced (operand_word kind)) row.operands
    ++ flat_map (λ option. spaced (option_words option)) row.options

-- two lines of a command: its words, and what it does
abbrev pub form_lines : Row → List ℕ
form_lines row = form_words row ++ 10 ∷ codes "      " ++ ended (phrase_of row.command)

-- the lines of a command that is in the group, and none of another
abbrev pub lines_within : Group → Row → List ℕ
lines_within group row = if same_group group (group_of row.command) then form_lines row else []

-- a group: an empty line, its heading, and its commands in the order of the rows
abbrev pub group_lines : List Row → Group → List ℕ
group_lines rows group = ended [] ++ ended (heading_of group) ++ flat_map (lines_within group) rows

-- the line of an example
abbrev pub example_line : List ℕ → List ℕ
example_line words = codes "  hsdec " ++ ended words

-- the line that makes the file of an example, if there is one
abbrev pub making_line : Option (List ℕ) → List ℕ
making_line None = []
making_line (Some words) = example_line words

-- the first line of the page about a command: what it does
abbrev pub title_line : Command → List ℕ
title_line command = command_word command ++ spaced (ended (phrase_of command))

-- the page about a command: what it does, its words, what its operands and options are, and an example
abbrev pub command_page : Row → List ℕ
command_page row =
    title_line row.command ++ ended [] ++ form_words row ++ ended [] ++ ended [] ++ operand_lines row.operands ++ option_lines row.options ++ ended []
    ++ ended (codes "Example:") ++ making_line (making_of row.command) ++ example_line (example_of row.command)

-- how the program is called, and the answers with what to do, line by line
unfoldable pub usage_text : List ℕ
usage_text =
    flat_map ended (
    codes "Usage:"
    ∷ codes "  hsdec COMMAND OPERAND.. OPTION.."
    ∷ codes "  hsdec --help"
    ∷ codes "  hsdec --help COMMAND"
    ∷ codes "  hsdec --version"
    ∷ []
    )

unfoldable pub answers_text : List ℕ
answers_text =
    flat_map ended (
    []
    ∷ codes "Exit status, and what to do:"
    ∷ codes "  0   the text was written whole"
    ∷ codes "  1   the machine has no decomposition of that kind: another kind may exist"
    ∷ codes "  2   the words are refused; word 1 is the command: see hsdec --help COMMAND"
    ∷ codes "  3   the text of the machine is refused, at the line that is named"
    ∷ codes "  4   two rows of the machine conflict; rows are counted from 1"
    ∷ codes "  5   the machine leaves something open: --fill hold fills it"
    ∷ codes "  7   there are more than the limit: --limit takes up to 10,000"
    ∷ codes "  8   a partition is refused, or two states are together in all; parts and"
    ∷ codes "      labels are counted from 0"
    ∷ codes "  9   the codes have more than 64 bits: serial or cascade often need fewer"
    ∷ codes "      than parallel; or a register more than 12"
    ∷ codes "  10  the text of the network is refused, at the line that is named"
    ∷ codes "  11  a start or a symbol is refused: --start gives the latches first values"
    ∷ codes "  12  a file cannot be read"
    ∷ codes "  13  a file is longer than 4,194,304 bytes"
    ∷ codes "  14  the text could not be written whole"
    ∷ codes "  15  memory ran out"
    ∷ codes "  17  least needs a machine of 3 to 8 states: --reduce may leave fewer"
    ∷ codes "  18  the cover is refused; blocks, and places within one, are counted from 0"
    ∷ codes "  19  the machine is not definite: two states that show it are named"
    ∷ codes "  20  no word of as many symbols as the order ends in the reset state: --reduce"
    ∷ codes "      can help"
    ∷ codes "  21  the machine has more than 8 inputs"
    ∷ codes "  22  more than 256 outputs occur"
    ∷ codes "  23  the split has no such part, or the part no bits; or the machine would have"
    ∷ codes "      more than 32 inputs, or a name of more than 64 bytes"
    ∷ codes "  24  the clock is the name of a signal of the network: another name will do"
    ∷ codes "  6 and 16 are not used"
    ∷ []
    )

-- a page about commands, in these groups, and about operands and options
abbrev pub help_page_of : List Row → List Group → List OperandKind → List CommandOption → List ℕ
help_page_of rows groups operands options =
    usage_text ++ flat_map (group_lines rows) groups ++ ended [] ++ ended (codes "Operands and options:") ++ operand_lines operands
    ++ option_lines options ++ answers_text

-- the page about the program: every command that is built, in its group, and their operands and options
unfoldable pub help_page : List ℕ
help_page = help_page_of built (Look ∷ Split ∷ Code ∷ Run ∷ Make ∷ []) (kinds.File ∷ kinds.Net ∷ kinds.Symbols ∷ kinds.Part ∷ kinds.Parts ∷ kinds.Cover ∷ kinds.Split ∷ kinds.J ∷ kinds.Seed ∷ kinds.A ∷ kinds.B ∷ kinds.K ∷ []) (Limit ∷ Reduce ∷ Start ∷ Fill ∷ Names ∷ Clock ∷ Model ∷ [])

-- the page of the version
abbrev pub version_page : List ℕ
version_page = ended (codes "hsdec 0.1.0")

-- the page that words ask for: one word alone asks for the page about the program or for its version, and two words
-- for the page about a command that is built
abbrev pub page_asked : List (List ℕ) → Option (List ℕ)
page_asked [] = None
page_asked (word ∷ []) =
    if bytes_eq word (codes "--help") then Some help_page else (if bytes_eq word (codes "--version") then Some version_page else None)
page_asked (word ∷ command ∷ []) = if bytes_eq word (codes "--help") then option_map command_page (row_named built command) else None
page_asked (word ∷ command ∷ more ∷ words) = None
