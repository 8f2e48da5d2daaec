-- The numbers of a job of `gen` or `trial` are in their ranges.
use Rattle.std.proofs.Common.{◌≡◌, ◌⊎◌, ◌≤◌, ℕ, zero, suc, ◌+◌, ◌*◌, ◌==◌, true, not, leb, List, [], ◌∷◌, length, slice_get, None, refl, sym, subst, inl, inr, arith}
use Rattle.std.specs.Prelude.{⊤}
use Rattle.std.specs.List.{AllByRecursion}
use Rattle.std.proofs.lemmas.Bool.{leb-true}
use Rattle.job_words.specs.declared.command.Command.{Command}
use Rattle.job_words.specs.declared.command.Command.TheVariants as commands
use Rattle.job_words.specs.declared.jobs.Job.{Job}
use Rattle.job_words.specs.declared.table.CommandOption.{CommandOption}
use Rattle.job_words.specs.declared.table.CommandOption.TheVariants.{Limit, Reduce, Start, Fill, Names, Clock, Model}
use Rattle.job_words.specs.declared.table.OperandKind.{OperandKind}
use Rattle.job_words.specs.declared.table.OperandKind.TheVariants.{Seed, A, B, K}
use Rattle.job_words.specs.Item.{Item, Operand, Chosen, Lacking, Unknown, items_of}
use Rattle.job_words.specs.Job.{SizesAreSizes, fits_kind, fits_place, job_of, operands_in, refusal, with_kind, with_option}
use Rattle.job_words.specs.Number.{is_within, value_of}
use Rattle.job_words.specs.Table.{Row, built}
use Rattle.job_words.proofs.Commands.{row_of_job}
use Rattle.job_words.proofs.Judged.{judged-keeps, operand_fits}
use Rattle.job_words.proofs.Ranges.{both, in_range}

abbrev numbers : List OperandKind
numbers = Seed ∷ A ∷ B ∷ K ∷ []

-- what so many of these operands have given is in its range
record AreInRange (count a b k : ℕ) : Type 0 where
  first : 2 ≤ count → (2 ≤ a) × (a ≤ 128)
  second : 3 ≤ count → ((2 ≤ b) × (b ≤ 128)) × (a * b ≤ 256)
  inputs : 4 ≤ count → (1 ≤ k) × (k ≤ 8)

abbrev AreSized : ℕ → Job → Type 0
AreSized count job = AreInRange count job.a job.b job.k

-- an operand more
sized_more : (i : ℕ) (word : List ℕ) (job : Job) → fits_place (slice_get numbers i) job word ≡ true → AreSized i job → AreSized (i + 1) (with_kind (slice_get numbers i) word job)
sized_more zero word job fits is = record { first = λ h. absurd (omega (arith, h)); second = λ h. absurd (omega (arith, h)); inputs = λ h. absurd (omega (arith, h)) }
sized_more (suc zero) word job fits is =
    let within = in_range 2 128 word (both (not (length word == 0)) (fits_kind A job word) fits).1 in
    record { first = λ h. within; second = λ h. absurd (omega (arith, h)); inputs = λ h. absurd (omega (arith, h)) }
sized_more (suc (suc zero)) word job fits is =
    let parts = both (is_within 2 128 word) (leb (job.a * value_of word) 256) (both (not (length word == 0)) (fits_kind B job word) fits).1 in
    let first = is.first (omega arith) in
    let second : ((2 ≤ value_of word) × (value_of word ≤ 128)) × (job.a * value_of word ≤ 256) = (in_range 2 128 word parts.0, leb-true (job.a * value_of word) 256 parts.1) in
    record { first = λ h. first; second = λ h. second; inputs = λ h. absurd (omega (arith, h)) }
sized_more (suc (suc (suc zero))) word job fits is =
    let within = in_range 1 8 word (both (not (length word == 0)) (fits_kind K job word) fits).1 in
    let first = is.first (omega arith) in
    let second = is.second (omega arith) in
    record { first = λ h. first; second = λ h. second; inputs = λ h. within }
sized_more (suc (suc (suc (suc i)))) word job fits is = cc

option_sized : (option : CommandOption) (word : List ℕ) (count : ℕ) (job : Job) → AreSized count job → AreSized count (with_option option word job)
option_sized Limit word count job is = is
option_sized Reduce word count job is = is
option_sized Start word count job is = is
option_sized Fill word count job is = is
option_sized Names word count job is = is
option_sized Clock word count job is = is
option_sized Model word count job is = is

-- an item that is not refused
keeps_sized : (row : Row) (before : List Item) (item : Item) → row.operands ≡ numbers → AreSized (operands_in before) (job_of row before) → refusal row before item ≡ None
    → AreSized (operands_in (item ∷ before)) (job_of row (item ∷ before))
keeps_sized row before (Operand word) same is e =
    let i = operands_in before in
    let job = job_of row before in
    let fits = subst (λ kinds. fits_place (slice_get kinds i) job word ≡ true) same (operand_fits row before word e) in
    subst (λ kinds. AreSized (i + 1) (with_kind (slice_get kinds i) word job)) (sym same) (sized_more i word job fits is)
keeps_sized row before (Chosen option word) same is e = option_sized option word (operands_in before) (job_of row before) is
keeps_sized row before (Lacking option) same is e = is
keeps_sized row before Unknown same is e = is

-- the commands that make a machine take these operands
abbrev MakesMachine : Command → Type 0
MakesMachine commands.Gen = ⊤
MakesMachine commands.Trial = ⊤
MakesMachine _ = ⊥

makes_machine : (command : Command) → (command ≡ commands.Gen) ⊎ (command ≡ commands.Trial) → MakesMachine command
makes_machine command = elim [
  | inl e ↦ subst MakesMachine (sym e) tt
  | inr e ↦ subst MakesMachine (sym e) tt
]

abbrev TakesNumbers : Row → Type 0
TakesNumbers row = MakesMachine row.command → row.operands ≡ numbers

built_numbers : AllByRecursion TakesNumbers built
built_numbers =
    (λ e. absurd e, (λ e. absurd e, (λ e. absurd e, (λ e. absurd e, (λ e. absurd e, (λ e. absurd e, (λ e. absurd e, (λ e. absurd e, (λ e. absurd e, (λ e. absurd e, (λ e. absurd e, (λ e. absurd e, (λ e. absurd e, (λ e. absurd e, (λ e. absurd e, (λ e. refl, (λ e. refl, (λ e. absurd e, (λ e. absurd e, (λ e. absurd e, (λ e. absurd e, (λ e. absurd e, (λ e. absurd e, (λ e. absurd e, (λ e. absurd e, tt)))))))))))))))))))))))))

-- the sizes of each job of `gen` and `trial`
pub sizes_are_sizes : SizesAreSizes
sizes_are_sizes words job e makes =
    let found = row_of_job TakesNumbers built words job built_numbers e in
    let same : found.row.operands ≡ numbers = found.has (subst MakesMachine found.command_is (makes_machine job.command makes)) in
    let none : AreSized 0 (job_of found.row []) = record { first = λ h. absurd (omega (arith, h)); second = λ h. absurd (omega (arith, h)); inputs = λ h. absurd (omega (arith, h)) } in
    let is =
    judged-keeps (λ before. AreSized (operands_in before) (job_of found.row before)) found.row [] 2 (items_of found.words) job (λ before item. keeps_sized found.row before item same) none found.judged_is in
    let whole : 4 ≤ operands_in is.items = subst (λ kinds. length kinds ≤ operands_in is.items) same is.whole in
    let sized : AreSized (operands_in is.items) job = subst (AreSized (operands_in is.items)) is.job_is is.holds in
    let first = sized.first (omega (arith, whole)) in
    let second = sized.second (omega (arith, whole)) in
    let inputs = sized.inputs whole in
    record { a_low = first.0; a_high = first.1; b_low = second.0.0; b_high = second.0.1; states = second.1; k_low = inputs.0; k_high = inputs.1 }
