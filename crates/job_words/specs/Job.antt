-- The job of a list of words, or the number of the refused word, by a table of commands.
use Rattle.std.specs.Prelude.{◌≡◌, ◌≢◌, ◌⊎◌, ◌≤◌, ℕ, ◌+◌, ◌*◌, ◌==◌, Bool, true, false, not, ◌&&◌, ◌||◌, nat_le, nat_lt, if◌then◌else◌, List, [], ◌∷◌, length, count_by, slice_get, Option, Some, None, IfSome, Result, Ok, Err, codes}
use Rattle.std.specs.List.{AllByRecursion, find, list_any}
use Rattle.std.specs.Str.{bytes_eq}
use Rattle.hs_io.specs.Spelling.{IsPlainField}
use Rattle.job_words.specs.declared.command.Command.{Command}
use Rattle.job_words.specs.declared.command.Command.TheVariants as commands
use Rattle.job_words.specs.declared.jobs.Job.{Job}
use Rattle.job_words.specs.declared.table.CommandOption.{CommandOption}
use Rattle.job_words.specs.declared.table.CommandOption.TheVariants.{Limit, Reduce, Start, Fill, Names, Clock, Model}
use Rattle.job_words.specs.declared.table.OperandKind.{OperandKind}
use Rattle.job_words.specs.declared.table.OperandKind.TheVariants.{File, Net, Part, Parts, Symbols, Cover, Split, J, Seed, A, B, K}
use Rattle.job_words.specs.Command.{command_word}
use Rattle.job_words.specs.Item.{Item, Operand, Chosen, Lacking, Unknown, items_of, width_of}
use Rattle.job_words.specs.Name.{is_clock_name, is_model_name}
use Rattle.job_words.specs.Number.{is_number, is_within, value_of}
use Rattle.job_words.specs.SplitWords.{has_few_slashes, is_part_word, is_split_word, part_of}
use Rattle.job_words.specs.Table.{Row, built}

-- a job of a command before any operand or option
abbrev pub empty_job : Command → Job
empty_job command =
    record { command = command; file = []; second = []; limit = 1000; reduce = false; start = None; seed = 0; a = 0; b = 0; k = 0; part = None; hold = false; names = false; clock = None; model = None }

-- a word is allowed as an operand of a kind, in a job that has the operands before it
abbrev pub fits_kind : OperandKind → Job → List ℕ → Bool
fits_kind File job word = true
fits_kind Net job word = true
fits_kind Part job word = true
fits_kind Parts job word = has_few_slashes word
fits_kind Symbols job word = true
fits_kind Cover job word = true
fits_kind Split job word = is_split_word word && has_few_slashes word
fits_kind J job word = is_part_word word
fits_kind Seed job word = is_number word
fits_kind A job word = is_within 2 128 word
fits_kind B job word = is_within 2 128 word && nat_le (job.a * value_of word) 256
fits_kind K job word = is_within 1 8 word

-- a job with one more operand
abbrev pub with_operand : OperandKind → List ℕ → Job → Job
with_operand File word job = record job { file = word }
with_operand Net word job = record job { file = word }
with_operand Part word job = record job { second = word }
with_operand Parts word job = record job { second = word }
with_operand Symbols word job = record job { second = word }
with_operand Cover word job = record job { second = word }
with_operand Split word job = record job { second = word }
with_operand J word job = record job { part = part_of word }
with_operand Seed word job = record job { seed = value_of word }
with_operand A word job = record job { a = value_of word }
with_operand B word job = record job { b = value_of word }
with_operand K word job = record job { k = value_of word }

-- a word is allowed after an option
abbrev pub fits_option : CommandOption → List ℕ → Bool
fits_option Limit word = is_within 1 10000 word
fits_option Reduce word = true
fits_option Start word = true
fits_option Fill word = bytes_eq word (codes "hold")
fits_option Names word = true
fits_option Clock word = is_clock_name word
fits_option Model word = is_model_name word

-- a job with one more option
abbrev pub with_option : CommandOption → List ℕ → Job → Job
with_option Limit word job = record job { limit = value_of word }
with_option Reduce word job = record job { reduce = true }
with_option Start word job = record job { start = Some word }
with_option Fill word job = record job { hold = true }
with_option Names word job = record job { names = true }
with_option Clock word job = record job { clock = Some word }
with_option Model word job = record job { model = Some word }

abbrev pub same_option : CommandOption → CommandOption → Bool
same_option Limit Limit = true
same_option Reduce Reduce = true
same_option Start Start = true
same_option Fill Fill = true
same_option Names Names = true
same_option Clock Clock = true
same_option Model Model = true
same_option option other = false

-- In what follows `before` are the items before an item, the last one first.

-- the number of operands
abbrev pub operands_in : List Item → ℕ
operands_in [] = 0
operands_in (Operand word ∷ before) = operands_in before + 1
operands_in (Chosen option word ∷ before) = operands_in before
operands_in (Lacking option ∷ before) = operands_in before
operands_in (Unknown ∷ before) = operands_in before

-- an option occurs
abbrev pub stands : CommandOption → List Item → Bool
stands option [] = false
stands option (Operand word ∷ before) = stands option before
stands option (Chosen other word ∷ before) = same_option option other || stands option before
stands option (Lacking other ∷ before) = stands option before
stands option (Unknown ∷ before) = stands option before

-- the job with this operand, by the kind that the command has at its place; the same job, if the command has none
-- there
abbrev pub with_kind : Option OperandKind → List ℕ → Job → Job
with_kind None word job = job
with_kind (Some kind) word job = with_operand kind word job

-- the job that the items give
abbrev pub job_of : Row → List Item → Job
job_of row [] = empty_job row.command
job_of row (Operand word ∷ before) = with_kind (slice_get row.operands (operands_in before)) word (job_of row before)
job_of row (Chosen option word ∷ before) = with_option option word (job_of row before)
job_of row (Lacking option ∷ before) = job_of row before
job_of row (Unknown ∷ before) = job_of row before

-- a word is allowed as the next operand: it is not empty, the command has an operand there, and the word is of its
-- kind
abbrev pub fits_place : Option OperandKind → Job → List ℕ → Bool
fits_place None job word = false
fits_place (Some kind) job word = not (length word == 0) && fits_kind kind job word

-- an option is allowed: the command has it, and it does not occur yet
abbrev pub may_stand : Row → List Item → CommandOption → Bool
may_stand row before option = list_any (same_option option) row.options && not (stands option before)

-- the place of the refused word in an item, counted from 0, if a word is refused
abbrev pub refusal : Row → List Item → Item → Option ℕ
refusal row before (Operand word) = if fits_place (slice_get row.operands (operands_in before)) (job_of row before) word then None else Some 0
refusal row before (Chosen option word) = if may_stand row before option then (if fits_option option word then None else Some 1) else Some 0
refusal row before (Lacking option) = if may_stand row before option then Some 1 else Some 0
refusal row before Unknown = Some 0

-- the first refusal decides
abbrev pub refused_or : ℕ → Option ℕ → Result Job ℕ → Result Job ℕ
refused_or number None rest = rest
refused_or number (Some place) rest = Err (number + place)

-- What further items give, the first of which begins at the word of this number. If none is refused and an operand
-- is missing, the number after that of the last word is refused.
abbrev pub judged : Row → List Item → ℕ → List Item → Result Job ℕ
judged row before number [] = if nat_lt (operands_in before) (length row.operands) then Err number else Ok (job_of row before)
judged row before number (item ∷ items) =
    refused_or number (refusal row before item) (judged row (item ∷ before) (number + width_of item) items)

abbrev pub judged_as : Option Row → List (List ℕ) → Result Job ℕ
judged_as None words = Err 1
judged_as (Some row) words = judged row [] 2 (items_of words)

-- the row of a command, by its word
abbrev pub row_named : List Row → List ℕ → Option Row
row_named rows word = find (λ row. bytes_eq word (command_word row.command)) rows

-- the job of the words by the rows of a table, or the number of the refused word, counted from 1
abbrev pub judgement : List Row → List (List ℕ) → Result Job ℕ
judgement rows [] = Err 1
judgement rows (word ∷ words) = judged_as (row_named rows word) words

-- the same by the commands that are built
abbrev pub JobOf : List (List ℕ) → Result Job ℕ
JobOf words = judgement built words

-- a limit that `--limit` allows
abbrev pub IsLimit : ℕ → Type 0
IsLimit limit = (1 ≤ limit) × (limit ≤ 10000)

-- each job has such a limit, with the option and without
abbrev pub LimitsAreLimits : Type 0
LimitsAreLimits = (words : List (List ℕ)) (job : Job) → JobOf words ≡ Ok job → IsLimit job.limit

-- the text of PARTS has at most 255 slashes
abbrev pub HasFewSlashes : List ℕ → Type 0
HasFewSlashes text = count_by (λ c. c == 47) text ≤ 255

-- the commands whose second operand may be PARTS
abbrev pub TakesParts : Command → Type 0
TakesParts command = (command ≡ commands.Assign) ⊎ (command ≡ commands.Part)

-- so PARTS has at most 256 pieces
abbrev pub PartsAreFew : Type 0
PartsAreFew = (words : List (List ℕ)) (job : Job) → JobOf words ≡ Ok job → TakesParts job.command → HasFewSlashes job.second

-- the numbers of a job that makes a machine are in their ranges
pub record HasSizes (job : Job) : Type 0 where
  pub a_low : 2 ≤ job.a
  pub a_high : job.a ≤ 128
  pub b_low : 2 ≤ job.b
  pub b_high : job.b ≤ 128
  pub states : job.a * job.b ≤ 256
  pub k_low : 1 ≤ job.k
  pub k_high : job.k ≤ 8

-- each job of `gen` and of `trial` has such numbers
abbrev pub SizesAreSizes : Type 0
SizesAreSizes = (words : List (List ℕ)) (job : Job) → JobOf words ≡ Ok job → (job.command ≡ commands.Gen) ⊎ (job.command ≡ commands.Trial) → HasSizes job

-- a name that can be a field of a network's text and does not join its lines
pub record IsModelName (name : List ℕ) : Type 0 where
  pub field : IsPlainField name
  pub no_backslash : AllByRecursion (λ b. b ≢ 92) name
  pub short : length name ≤ 64

-- such a name that a latch line does not read as no clock
pub record IsClockName (name : List ℕ) : Type 0 where
  pub given : IsModelName name
  pub no_nil : name ≢ codes "NIL"

-- the names that the options of a job give
pub record HasGivenNames (job : Job) : Type 0 where
  pub clock : IfSome job.clock IsClockName
  pub model : IfSome job.model IsModelName

-- each job has such names
abbrev pub NamesAreNames : Type 0
NamesAreNames = (words : List (List ℕ)) (job : Job) → JobOf words ≡ Ok job → HasGivenNames job
