-- The clock and the model of a job are names.
use Rattle.std.proofs.Common.{◌≡◌, ◌≢◌, ◌<◌, ℕ, ◌==◌, true, not, ◌&&◌, leb, List, [], ◌∷◌, length, Option, Some, None, IfSome, Ok, codes, sym, subst, arith}
use Rattle.std.specs.List.{AllByRecursion, list_all}
use Rattle.std.specs.Str.{bytes_eq}
use Rattle.std.proofs.lemmas.Bool.{leb-true}
use Rattle.std.proofs.lemmas.Bool.Decides.{nat_tests}
use Rattle.hs_io.specs.Spelling.{IsFieldByte}
use Rattle.job_words.specs.declared.jobs.Job.{Job}
use Rattle.job_words.specs.declared.table.CommandOption.{CommandOption}
use Rattle.job_words.specs.declared.table.CommandOption.TheVariants.{Limit, Reduce, Start, Fill, Names, Clock, Model}
use Rattle.job_words.specs.Item.{Item, Operand, Chosen, Lacking, Unknown, items_of}
use Rattle.job_words.specs.Job.{HasGivenNames, IsClockName, IsModelName, NamesAreNames, fits_option, job_of, judged_as, refusal, row_named, with_option}
use Rattle.job_words.specs.Name.{is_clock_name, is_given_byte, is_model_name}
use Rattle.job_words.specs.Table.{Row, built}
use Rattle.job_words.proofs.Commands.{Keeps, with_kind-keeps}
use Rattle.job_words.proofs.Judged.{judged-keeps, option_fits}
use Rattle.job_words.proofs.Ranges.{both}

field_byte : (byte : ℕ) → is_given_byte byte ≡ true → IsFieldByte byte
field_byte byte is = record { low = grind (arith, nat_tests); high = grind (arith, nat_tests); no_comment = grind (arith, nat_tests) }

not_backslash : (byte : ℕ) → is_given_byte byte ≡ true → byte ≢ 92
not_backslash byte is = grind (arith, nat_tests)

-- what each byte of a test has, each byte has
bytes_have : (P : ℕ → Type 0) → ((byte : ℕ) → is_given_byte byte ≡ true → P byte) → (word : List ℕ) → list_all is_given_byte word ≡ true → AllByRecursion P word
bytes_have P each [] are = tt
bytes_have P each (byte ∷ bytes) are =
    let parts = both (is_given_byte byte) (list_all is_given_byte bytes) are in (each byte parts.0, bytes_have P each bytes parts.1)

some_bytes : (word : List ℕ) → not (length word == 0) ≡ true → 0 < length word
some_bytes [] is = cc
some_bytes (byte ∷ bytes) is = omega arith

given_name : (word : List ℕ) → is_model_name word ≡ true → IsModelName word
given_name word is =
    let bytes = both (not (length word == 0) && leb (length word) 64) (list_all is_given_byte word) is in
    let lengths = both (not (length word == 0)) (leb (length word) 64) bytes.0 in
    record {
      field = record { some = some_bytes word lengths.0; visible = bytes_have IsFieldByte field_byte word bytes.1 };
      no_backslash = bytes_have (λ b. b ≢ 92) not_backslash word bytes.1;
      short = leb-true (length word) 64 lengths.1;
    }

not_nil : (word : List ℕ) → not (bytes_eq word (codes "NIL")) ≡ true → word ≢ codes "NIL"
not_nil word is e = let is_nil : not (bytes_eq (codes "NIL") (codes "NIL")) ≡ true = subst (λ w. not (bytes_eq w (codes "NIL")) ≡ true) e is in cc

clock_name : (word : List ℕ) → is_clock_name word ≡ true → IsClockName word
clock_name word is =
    let parts = both (is_model_name word) (not (bytes_eq word (codes "NIL"))) is in
    record { given = given_name word parts.0; no_nil = not_nil word parts.1 }

with_option-names : (option : CommandOption) (word : List ℕ) (job : Job) → fits_option option word ≡ true → HasGivenNames job → HasGivenNames (with_option option word job)
with_option-names Limit word job fits has = record { clock = has.clock; model = has.model }
with_option-names Reduce word job fits has = record { clock = has.clock; model = has.model }
with_option-names Start word job fits has = record { clock = has.clock; model = has.model }
with_option-names Fill word job fits has = record { clock = has.clock; model = has.model }
with_option-names Names word job fits has = record { clock = has.clock; model = has.model }
with_option-names Clock word job fits has = record { clock = clock_name word fits; model = has.model }
with_option-names Model word job fits has = record { clock = has.clock; model = given_name word fits }

of_kept : (job more : Job) → Keeps job more → HasGivenNames job → HasGivenNames more
of_kept job more kept has = record {
  clock = subst (λ (clock : Option (List ℕ)). IfSome clock IsClockName) (sym kept.clock) has.clock;
  model = subst (λ (model : Option (List ℕ)). IfSome model IsModelName) (sym kept.model) has.model;
}

-- an item that is not refused leaves names
keeps_names : (row : Row) (before : List Item) (item : Item) → HasGivenNames (job_of row before) → refusal row before item ≡ None → HasGivenNames (job_of row (item ∷ before))
keeps_names row before (Operand word) has e = of_kept (job_of row before) _ (with_kind-keeps _ word (job_of row before)) has
keeps_names row before (Chosen option word) has e =
    with_option-names option word (job_of row before) (option_fits row before option word e) has
keeps_names row before (Lacking option) has e = has
keeps_names row before Unknown has e = has

of_row : (words : List (List ℕ)) (job : Job) (row : Option Row) → judged_as row words ≡ Ok job → HasGivenNames job
of_row words job None e = cc
of_row words job (Some row) e =
    let is = judged-keeps (λ before. HasGivenNames (job_of row before)) row [] 2 (items_of words) job (keeps_names row) (record { clock = tt; model = tt }) e in
    subst HasGivenNames is.job_is is.holds

-- the names of each job
pub names_are_names : NamesAreNames
names_are_names [] job e = cc
names_are_names (word ∷ words) job e = of_row words job (row_named built word) e
