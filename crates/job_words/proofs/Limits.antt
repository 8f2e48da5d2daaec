-- The limit of a job is one that `--limit` takes.
use Rattle.std.proofs.Common.{◌≡◌, ℕ, true, List, [], ◌∷◌, Option, Some, None, Ok, sym, subst, arith}
use Rattle.job_words.specs.declared.jobs.Job.{Job}
use Rattle.job_words.specs.declared.table.CommandOption.{CommandOption}
use Rattle.job_words.specs.declared.table.CommandOption.TheVariants.{Limit, Reduce, Start, Fill, Names, Clock, Model}
use Rattle.job_words.specs.Item.{Item, Operand, Chosen, Lacking, Unknown, items_of}
use Rattle.job_words.specs.Job.{IsLimit, LimitsAreLimits, fits_option, job_of, judged_as, refusal, row_named, with_option}
use Rattle.job_words.specs.Table.{Row, built}
use Rattle.job_words.proofs.Commands.{with_kind-keeps}
use Rattle.job_words.proofs.Judged.{judged-keeps, option_fits}
use Rattle.job_words.proofs.Ranges.{in_range}

with_option-limit : (option : CommandOption) (word : List ℕ) (job : Job) → fits_option option word ≡ true → IsLimit job.limit → IsLimit (with_option option word job).limit
with_option-limit Limit word job fits is = in_range 1 10000 word fits
with_option-limit Reduce word job fits is = is
with_option-limit Start word job fits is = is
with_option-limit Fill word job fits is = is
with_option-limit Names word job fits is = is
with_option-limit Clock word job fits is = is
with_option-limit Model word job fits is = is

-- an item that is not refused leaves a limit
keeps_limit : (row : Row) (before : List Item) (item : Item) → IsLimit (job_of row before).limit → refusal row before item ≡ None → IsLimit (job_of row (item ∷ before)).limit
keeps_limit row before (Operand word) is e = subst IsLimit (sym (with_kind-keeps _ word (job_of row before)).limit) is
keeps_limit row before (Chosen option word) is e =
    with_option-limit option word (job_of row before) (option_fits row before option word e) is
keeps_limit row before (Lacking option) is e = is
keeps_limit row before Unknown is e = is

of_row : (words : List (List ℕ)) (job : Job) (row : Option Row) → judged_as row words ≡ Ok job → IsLimit job.limit
of_row words job None e = cc
of_row words job (Some row) e =
    let is = judged-keeps (λ before. IsLimit (job_of row before).limit) row [] 2 (items_of words) job (keeps_limit row) (omega arith, omega arith) e in
    subst (λ (j : Job). IsLimit j.limit) is.job_is is.holds

-- the limit of each job
pub limits_are_limits : LimitsAreLimits
limits_are_limits [] job e = cc
limits_are_limits (word ∷ words) job e = of_row words job (row_named built word) e
