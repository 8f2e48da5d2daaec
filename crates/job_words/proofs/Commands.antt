-- The command of a job is that of a row.
use Rattle.std.proofs.Common.{◌≡◌, ℕ, Bool, true, false, List, [], ◌∷◌, Contains, Option, Some, None, Result, Ok, Err, IfOk, refl, sym, ap, ◌∙◌, subst, suc, inl, inr, arith}
use Rattle.std.proofs.lemmas.Bool.{cases_Bool}
use Rattle.std.specs.Prelude.{⊤}
use Rattle.std.specs.List.{AllByRecursion, find}
use Rattle.job_words.specs.declared.command.Command.{Command}
use Rattle.job_words.specs.declared.jobs.Job.{Job}
use Rattle.job_words.specs.declared.jobs.JobFail.{JobFail}
use Rattle.job_words.specs.declared.table.CommandOption.{CommandOption}
use Rattle.job_words.specs.declared.table.CommandOption.TheVariants.{Limit, Reduce, Start, Fill, Names, Clock, Model}
use Rattle.job_words.specs.declared.table.OperandKind.{OperandKind}
use Rattle.job_words.specs.declared.table.OperandKind.TheVariants.{File, Net, Part, Parts, Symbols, Cover, Split, J, Seed, A, B, K}
use Rattle.std.specs.Str.{bytes_eq}
use Rattle.job_words.specs.Command.{command_word}
use Rattle.job_words.specs.Item.{Item, Operand, Chosen, Lacking, Unknown, items_of}
use Rattle.job_words.specs.Job.{job_of, judged, judged_as, judgement, row_named, with_kind, with_operand, with_option}
use Rattle.job_words.specs.Table.{IsBuilt, Row, built, commands_of}
use Rattle.job_words.proofs.Judged.{judged-keeps}

-- an operand leaves the command, the limit, what is filled, and the given names
pub record Keeps (job more : Job) : Type 0 where
  pub command : more.command ≡ job.command
  pub limit : more.limit ≡ job.limit
  pub hold : more.hold ≡ job.hold
  pub clock : more.clock ≡ job.clock
  pub model : more.model ≡ job.model

with_operand-keeps : (kind : OperandKind) (word : List ℕ) (job : Job) → Keeps job (with_operand kind word job)
with_operand-keeps File word job = record { command = refl; limit = refl; hold = refl; clock = refl; model = refl }
with_operand-keeps Net word job = record { command = refl; limit = refl; hold = refl; clock = refl; model = refl }
with_operand-keeps Part word job = record { command = refl; limit = refl; hold = refl; clock = refl; model = refl }
with_operand-keeps Parts word job = record { command = refl; limit = refl; hold = refl; clock = refl; model = refl }
with_operand-keeps Symbols word job = record { command = refl; limit = refl; hold = refl; clock = refl; model = refl }
with_operand-keeps Cover word job = record { command = refl; limit = refl; hold = refl; clock = refl; model = refl }
with_operand-keeps Split word job = record { command = refl; limit = refl; hold = refl; clock = refl; model = refl }
with_operand-keeps J word job = record { command = refl; limit = refl; hold = refl; clock = refl; model = refl }
with_operand-keeps Seed word job = record { command = refl; limit = refl; hold = refl; clock = refl; model = refl }
with_operand-keeps A word job = record { command = refl; limit = refl; hold = refl; clock = refl; model = refl }
with_operand-keeps B word job = record { command = refl; limit = refl; hold = refl; clock = refl; model = refl }
with_operand-keeps K word job = record { command = refl; limit = refl; hold = refl; clock = refl; model = refl }

pub with_kind-keeps : (kind : Option OperandKind) (word : List ℕ) (job : Job) → Keeps job (with_kind kind word job)
with_kind-keeps None word job = record { command = refl; limit = refl; hold = refl; clock = refl; model = refl }
with_kind-keeps (Some kind) word job = with_operand-keeps kind word job

-- an option leaves the command
with_option-command : (option : CommandOption) (word : List ℕ) (job : Job) → (with_option option word job).command ≡ job.command
with_option-command Limit word job = refl
with_option-command Reduce word job = refl
with_option-command Start word job = refl
with_option-command Fill word job = refl
with_option-command Names word job = refl
with_option-command Clock word job = refl
with_option-command Model word job = refl

job_of-command : (row : Row) (before : List Item) → (job_of row before).command ≡ row.command
job_of-command row [] = refl
job_of-command row (Operand word ∷ before) = (with_kind-keeps _ word (job_of row before)).command ∙ job_of-command row before
job_of-command row (Chosen option word ∷ before) = with_option-command option word (job_of row before) ∙ job_of-command row before
job_of-command row (Lacking option ∷ before) = job_of-command row before
job_of-command row (Unknown ∷ before) = job_of-command row before

-- so the job that items give has the command of the row
pub judged-command : (row : Row) (before : List Item) (number : ℕ) (items : List Item) (job : Job) → judged row before number items ≡ Ok job → job.command ≡ row.command
judged-command row before number items job e =
    let is = judged-keeps (λ _. ⊤) row before number items job (λ before item holds kept. tt) tt e in
    ap (λ (j : Job). j.command) (sym is.job_is) ∙ job_of-command row is.items

-- a row that is found is one of them
here : (first : Row) (rows : List Row) (row : Row) → first ≡ row → Contains (commands_of (first ∷ rows)) row.command
here first rows row e = (0, omega arith, ap (λ (r : Row). r.command) e)

there : (first : Row) (rows : List Row) (command : Command) → Contains (commands_of rows) command → Contains (commands_of (first ∷ rows)) command
there first rows command (k, within, is) = (suc k, omega arith, is)

found_first : (p : Row → Bool) (first : Row) (rows : List Row) (row : Row) → p first ≡ true → find p (first ∷ rows) ≡ Some row → first ≡ row
found_first p first rows row is e = let same : find p (first ∷ rows) ≡ Some first = rw is refl in cc

found_later : (p : Row → Bool) (first : Row) (rows : List Row) (row : Row) → p first ≡ false → find p (first ∷ rows) ≡ Some row → find p rows ≡ Some row
found_later p first rows row other e = let same : find p (first ∷ rows) ≡ find p rows = rw other refl in sym same ∙ e

found : (p : Row → Bool) (rows : List Row) (row : Row) → find p rows ≡ Some row → Contains (commands_of rows) row.command
found p [] row e = cc
found p (first ∷ rows) row e =
    elim (cases_Bool (p first)) [
      | inl is ↦ here first rows row (found_first p first rows row is e)
      | inr other ↦ there first rows row.command (found p rows row (found_later p first rows row other e))
    ]

-- what each row has, a row that is found has
found_has : (p : Row → Bool) (Q : Row → Type 0) (rows : List Row) (row : Row) → AllByRecursion Q rows → find p rows ≡ Some row → Q row
found_has p Q [] row each is = cc
found_has p Q (first ∷ rows) row (has, each) is =
    elim (cases_Bool (p first)) [
      | inl here ↦ subst Q (found_first p first rows row here is) has
      | inr later ↦ found_has p Q rows row each (found_later p first rows row later is)
    ]

-- a job is that of words after the command, by a row with its command that has what each row has
pub record HasRow (Q : Row → Type 0) (job : Job) : Type 0 where
  pub row : Row
  pub has : Q row
  pub command_is : job.command ≡ row.command
  pub words : List (List ℕ)
  pub judged_is : judged row [] 2 (items_of words) ≡ Ok job

row_found : (Q : Row → Type 0) (rows : List Row) (word : List ℕ) (words : List (List ℕ)) (job : Job) (row : Option Row) → AllByRecursion Q rows → row_named rows word ≡ row → judged_as row words ≡ Ok job → HasRow Q job
row_found Q rows word words job None each f g = cc
row_found Q rows word words job (Some row) each f g = record {
  row = row;
  has = found_has (λ r. bytes_eq word (command_word r.command)) Q rows row each f;
  command_is = judged-command row [] 2 (items_of words) job g;
  words = words;
  judged_is = g;
}

pub row_of_job : (Q : Row → Type 0) (rows : List Row) (words : List (List ℕ)) (job : Job) → AllByRecursion Q rows → judgement rows words ≡ Ok job → HasRow Q job
row_of_job Q rows [] job each e = cc
row_of_job Q rows (word ∷ words) job each e = row_found Q rows word words job (row_named rows word) each refl e

of_row : (rows : List Row) (word : List ℕ) (words : List (List ℕ)) (job : Job) (row : Option Row) → row_named rows word ≡ row → judged_as row words ≡ Ok job → Contains (commands_of rows) job.command
of_row rows word words job None f g = cc
of_row rows word words job (Some row) f g =
    subst (Contains (commands_of rows)) (sym (judged-command row [] 2 (items_of words) job g)) (found (λ r. bytes_eq word (command_word r.command)) rows row f)

-- so the command of a job is in the table
pub judgement-command : (rows : List Row) (words : List (List ℕ)) (job : Job) → judgement rows words ≡ Ok job → Contains (commands_of rows) job.command
judgement-command rows [] job e = cc
judgement-command rows (word ∷ words) job e = of_row rows word words job (row_named rows word) refl e

-- and by the commands that are built it is one of them
pub built_job : (rows : List Row) (words : List (List ℕ)) (result : Result Job JobFail) → rows ≡ built → IfOk result (λ job. judgement rows words ≡ Ok job) → IfOk result (λ job. IsBuilt job.command)
built_job rows words (Ok job) same h = subst (λ list. Contains (commands_of list) job.command) same (judgement-command rows words job h)
built_job rows words (Err fail) same h = tt
