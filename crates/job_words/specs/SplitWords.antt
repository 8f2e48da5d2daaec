-- The words of `part`: one that names a split, and one that names a machine of it.
use Rattle.std.specs.Prelude.{ℕ, ◌==◌, Bool, false, ◌&&◌, ◌||◌, nat_le, if◌then◌else◌, List, [], ◌∷◌, length, count_by, Option, None, Some, codes}
use Rattle.std.specs.Char.{is_ascii_digit}
use Rattle.std.specs.List.{list_any}
use Rattle.std.specs.Str.{bytes_eq}
use Rattle.job_words.specs.declared.command.Command.{Command}
use Rattle.job_words.specs.declared.command.Command.TheVariants.{Cascade, Code, Feedback, Least, Parallel, Serial}
use Rattle.job_words.specs.Command.{command_word}
use Rattle.job_words.specs.Number.{is_number, value_of}

-- the commands that split a machine and need no partitions for it
abbrev pub split_commands : List Command
split_commands = Code ∷ Parallel ∷ Serial ∷ Cascade ∷ Feedback ∷ Least ∷ []

abbrev pub begins_with_digit : List ℕ → Bool
begins_with_digit [] = false
begins_with_digit (byte ∷ word) = is_ascii_digit byte

-- a word names a split: it is the word of such a command, or it begins as partitions do
abbrev pub is_split_word : List ℕ → Bool
is_split_word word = list_any (λ command. bytes_eq word (command_word command)) split_commands || begins_with_digit word

-- partitions are few: at most 255 slashes separate them
abbrev pub has_few_slashes : List ℕ → Bool
has_few_slashes word = nat_le (count_by (λ c. c == 47) word) 255

abbrev pub names_outputs : List ℕ → Bool
names_outputs word = bytes_eq word (codes "outputs")

-- a word names a machine of a split: one to three digits name that of a part
abbrev pub is_part_word : List ℕ → Bool
is_part_word word = names_outputs word || is_number word && nat_le (length word) 3

-- the number of the part, or none for the outputs
abbrev pub part_of : List ℕ → Option ℕ
part_of word = if names_outputs word then None else Some (value_of word)
