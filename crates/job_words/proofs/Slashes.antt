-- The operand PARTS of a job has at most 255 slashes.
use Rattle.std.proofs.Common.{◌≡◌, ℕ, zero, suc, ◌==◌, true, not, List, [], ◌∷◌, Option, Some, None, refl, sym, subst, inl, inr, length, slice_get, count_by, arith}
use Rattle.std.specs.Prelude.{⊤}
use Rattle.std.specs.List.{AllByRecursion}
use Rattle.std.proofs.lemmas.Bool.{leb-true}
use Rattle.job_words.specs.declared.command.Command.{Command}
use Rattle.job_words.specs.declared.command.Command.TheVariants as commands
use Rattle.job_words.specs.declared.jobs.Job.{Job}
use Rattle.job_words.specs.declared.table.CommandOption.{CommandOption}
use Rattle.job_words.specs.declared.table.CommandOption.TheVariants.{Limit, Reduce, Start, Fill, Names, Clock, Model}
use Rattle.job_words.specs.declared.table.OperandKind.{OperandKind}
use Rattle.job_words.specs.declared.table.OperandKind.TheVariants.{File, Net, Part, Parts, Symbols, Cover, Split, J, Seed, A, B, K}
use Rattle.job_words.specs.Item.{Item, Operand, Chosen, Lacking, Unknown, items_of}
use Rattle.job_words.specs.Job.{HasFewSlashes, PartsAreFew, TakesParts, fits_kind, fits_place, job_of, operands_in, refusal, with_kind, with_option}
use Rattle.job_words.specs.SplitWords.{has_few_slashes, is_split_word}
use Rattle.job_words.specs.Table.{Row, built}
use Rattle.job_words.proofs.Commands.{row_of_job}
use Rattle.job_words.proofs.Judged.{judged-keeps, operand_fits}
use Rattle.job_words.proofs.Ranges.{both}

-- an operand that is no second one, or whose slashes are counted
abbrev IsCounted : Option OperandKind → Type 0
IsCounted (Some Part) = ⊥
IsCounted (Some Symbols) = ⊥
IsCounted (Some Cover) = ⊥
IsCounted _ = ⊤

-- each operand of the row is so
abbrev AreCounted : Row → Type 0
AreCounted row = (i : ℕ) → IsCounted (slice_get row.operands i)

-- a word that fits its place leaves few slashes
few_of : (kind : OperandKind) (word : List ℕ) (job : Job) → IsCounted (Some kind) → fits_kind kind job word ≡ true → HasFewSlashes job.second → HasFewSlashes (with_kind (Some kind) word job).second
few_of File word job counted fits few = few
few_of Net word job counted fits few = few
few_of Part word job counted fits few = absurd counted
few_of Parts word job counted fits few = leb-true (count_by (λ c. c == 47) word) 255 fits
few_of Symbols word job counted fits few = absurd counted
few_of Cover word job counted fits few = absurd counted
few_of Split word job counted fits few =
    leb-true (count_by (λ c. c == 47) word) 255 (both (is_split_word word) (has_few_slashes word) fits).1
few_of J word job counted fits few = few
few_of Seed word job counted fits few = few
few_of A word job counted fits few = few
few_of B word job counted fits few = few
few_of K word job counted fits few = few

few_at : (kind : Option OperandKind) (word : List ℕ) (job : Job) → IsCounted kind → fits_place kind job word ≡ true → HasFewSlashes job.second → HasFewSlashes (with_kind kind word job).second
few_at None word job counted fits few = few
few_at (Some kind) word job counted fits few = few_of kind word job counted (both (not (length word == 0)) (fits_kind kind job word) fits).1 few

with_option-second : (option : CommandOption) (word : List ℕ) (job : Job) → (with_option option word job).second ≡ job.second
with_option-second Limit word job = refl
with_option-second Reduce word job = refl
with_option-second Start word job = refl
with_option-second Fill word job = refl
with_option-second Names word job = refl
with_option-second Clock word job = refl
with_option-second Model word job = refl

-- so an item that is not refused leaves few slashes
keeps_few : (row : Row) (before : List Item) (item : Item) → AreCounted row → HasFewSlashes (job_of row before).second → refusal row before item ≡ None → HasFewSlashes (job_of row (item ∷ before)).second
keeps_few row before (Operand word) counted few e =
    few_at (slice_get row.operands (operands_in before)) word (job_of row before) (counted (operands_in before)) (operand_fits row before word e) few
keeps_few row before (Chosen option word) counted few e = subst HasFewSlashes (sym (with_option-second option word (job_of row before))) few
keeps_few row before (Lacking option) counted few e = few
keeps_few row before Unknown counted few e = few

-- the commands that are built and take PARTS count its slashes
abbrev IsOfParts : Command → Type 0
IsOfParts commands.Assign = ⊤
IsOfParts commands.Part = ⊤
IsOfParts _ = ⊥

is_of_parts : (command : Command) → TakesParts command → IsOfParts command
is_of_parts command = elim [
  | inl e ↦ subst IsOfParts (sym e) tt
  | inr e ↦ subst IsOfParts (sym e) tt
]

abbrev CountsSlashes : Row → Type 0
CountsSlashes row = IsOfParts row.command → AreCounted row

counted_parts : (i : ℕ) → IsCounted (slice_get (File ∷ Parts ∷ []) i)
counted_parts zero = tt
counted_parts (suc zero) = tt
counted_parts (suc (suc i)) = tt

counted_split : (i : ℕ) → IsCounted (slice_get (File ∷ Split ∷ J ∷ []) i)
counted_split zero = tt
counted_split (suc zero) = tt
counted_split (suc (suc zero)) = tt
counted_split (suc (suc (suc i))) = tt

built_counted : AllByRecursion CountsSlashes built
built_counted =
    (λ e. absurd e, (λ e. absurd e, (λ e. absurd e, (λ e. absurd e, (λ e. absurd e, (λ e. absurd e, (λ e. absurd e, (λ e. absurd e, (λ e. counted_parts, (λ e. absurd e, (λ e. absurd e, (λ e. absurd e, (λ e. absurd e, (λ e. absurd e, (λ e. absurd e, (λ e. absurd e, (λ e. absurd e, (λ e. absurd e, (λ e. absurd e, (λ e. absurd e, (λ e. absurd e, (λ e. absurd e, (λ e. absurd e, (λ e. absurd e, (λ e. counted_split, tt)))))))))))))))))))))))))

-- the slashes of each job
pub parts_are_few : PartsAreFew
parts_are_few words job e takes =
    let found = row_of_job CountsSlashes built words job built_counted e in
    let counted : AreCounted found.row = found.has (subst IsOfParts found.command_is (is_of_parts job.command takes)) in
    let is =
    judged-keeps (λ before. HasFewSlashes (job_of found.row before).second) found.row [] 2 (items_of found.words) job (λ before item. keeps_few found.row before item counted) (omega arith) found.judged_is in
    subst (λ (j : Job). HasFewSlashes j.second) is.job_is is.holds
