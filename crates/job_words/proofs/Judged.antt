-- What the items of a job keep, the job has.
use Rattle.std.proofs.Common.{◌≡◌, ◌≤◌, ℕ, ◌+◌, Bool, true, false, ltb, if◌then◌else◌, List, [], ◌∷◌, length, Option, Some, None, Result, Ok, Err, refl, arith}
use Rattle.std.specs.List.{slice_get}
use Rattle.std.proofs.lemmas.Bool.Decides.{nat_tests}
use Rattle.job_words.specs.declared.jobs.Job.{Job}
use Rattle.job_words.specs.declared.table.CommandOption.{CommandOption}
use Rattle.job_words.specs.Item.{Item, Operand, Chosen, width_of}
use Rattle.job_words.specs.Job.{fits_option, fits_place, job_of, judged, may_stand, operands_in, refusal, refused_or}
use Rattle.job_words.specs.Table.{Row}

not_refused : (number : ℕ) (place : Option ℕ) (rest : Result Job ℕ) (job : Job) → refused_or number place rest ≡ Ok job → rest ≡ Ok job
not_refused number None rest job e = e
not_refused number (Some place) rest job e = cc

-- an item that was judged on was not refused
passed : (number : ℕ) (place : Option ℕ) (rest : Result Job ℕ) (job : Job) → refused_or number place rest ≡ Ok job → place ≡ None
passed number None rest job e = refl
passed number (Some place) rest job e = cc

-- an operand that is not refused fits its place
abbrev operand_place : Bool → Option ℕ
operand_place fits = if fits then None else Some 0

fits_operand : (fits : Bool) → operand_place fits ≡ None → fits ≡ true
fits_operand true e = refl
fits_operand false e = let some : Option ℕ = Some 0 in let none : some ≡ None = e in cc

pub operand_fits : (row : Row) (before : List Item) (word : List ℕ) → refusal row before (Operand word) ≡ None
    → fits_place (slice_get row.operands (operands_in before)) (job_of row before) word ≡ true
operand_fits row before word e = fits_operand (fits_place (slice_get row.operands (operands_in before)) (job_of row before) word) e

-- an option that is not refused fits
abbrev option_place : Bool → Bool → Option ℕ
option_place stands fits = if stands then (if fits then None else Some 1) else Some 0

fits_of : (stands fits : Bool) → option_place stands fits ≡ None → fits ≡ true
fits_of true true e = refl
fits_of true false e = let some : Option ℕ = Some 1 in let none : some ≡ None = e in cc
fits_of false true e = refl
fits_of false false e = let some : Option ℕ = Some 0 in let none : some ≡ None = e in cc

pub option_fits : (row : Row) (before : List Item) (option : CommandOption) (word : List ℕ) → refusal row before (Chosen option word) ≡ None → fits_option option word ≡ true
option_fits row before option word e = fits_of (may_stand row before option) (fits_option option word) e

-- an item that is not refused keeps what holds of those before it
abbrev pub Keeps : (List Item → Type 0) → Row → Type 0
Keeps P row = (before : List Item) (item : Item) → P before → refusal row before item ≡ None → P (item ∷ before)

-- a job is that of items of which this holds, with all operands
pub record IsOfItems (P : List Item → Type 0) (row : Row) (job : Job) : Type 0 where
  pub items : List Item
  pub holds : P items
  pub whole : length row.operands ≤ operands_in items
  pub job_is : job_of row items ≡ job

ended : (P : List Item → Type 0) (row : Row) (before : List Item) (number : ℕ) (job : Job) (missing : Bool) → P before → ltb (operands_in before) (length row.operands) ≡ missing
    → (if missing then Err number else Ok (job_of row before)) ≡ Ok job → IsOfItems P row job
ended P row before number job true holds test e = cc
ended P row before number job false holds test e =
    let same : job_of row before ≡ job = cc in record { items = before; holds = holds; whole = grind (arith, nat_tests); job_is = same }

pub judged-keeps : (P : List Item → Type 0) (row : Row) (before : List Item) (number : ℕ) (items : List Item) (job : Job) → Keeps P row → P before → judged row before number items ≡ Ok job → IsOfItems P row job
judged-keeps P row before number [] job kept holds e = ended P row before number job _ holds refl e
judged-keeps P row before number (item ∷ items) job kept holds e =
    judged-keeps P row (item ∷ before) (number + width_of item) items job kept
    (kept before item holds (passed number (refusal row before item) _ job e))
    (not_refused number (refusal row before item) _ job e)
