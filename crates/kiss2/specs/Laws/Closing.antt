-- The fault of lines as a whole, by what is kept.
use Rattle.std.proofs.Common.{◌≡◌, ℕ, Bool, true, false, cond, eqb, List, [], ◌∷◌, length, get_or, Option, Some, None, Contains, ap, sym, ◌∙◌, refl, subst, ◌<◌, inl, inr, arith}
use Rattle.std.specs.Prelude.{slice_get}
use Rattle.std.specs.List.{AllZip}
use Rattle.std.specs.Option.{IfNone, IfSome, option_map, option_or}
use Rattle.std.proofs.lemmas.Bool.{cases_eq, eq-eqb, ne_eqb}
use Rattle.std.proofs.lemmas.Option.{none-some, same_Some}
use Rattle.hs_io.specs.declared.lines.Line.{Line}
use Rattle.kiss2.specs.declared.fault.KissFault.{KissFault}
use Rattle.kiss2.specs.declared.fault.KissKind.TheVariants.{NoRows, ResetUnknown}
use Rattle.kiss_file.specs.declared.file.KissRow.{KissRow}
use Rattle.kiss2.specs.declared.line_kind.LineKind.TheVariants.{Reset}
use Rattle.kiss2.specs.declared.standing.ResetLine.{ResetLine}
use Rattle.kiss2.specs.declared.standing.Said.{Said}
use Rattle.kiss2.specs.Inner.ReaderState.{Stands, reset_line}
use Rattle.kiss2.specs.Kiss.{IsRowOf, closing_fault, reset_unknown}
use Rattle.kiss2.specs.Standing.{line_with, reset_name, row_lines, state_names}
use Rattle.kiss2.specs.Words.{current_field, field_at}
use Rattle.kiss2.specs.Laws.Finding.{absent_test, contained_from_test, contained_test}
use Rattle.kiss2.specs.Laws.Once.{among, seen_among}

kept_from : (line : Option Line) (reset : ResetLine) → Some reset ≡ option_map reset_line line → (l : Line) × (line ≡ Some l) × (reset ≡ reset_line l)
kept_from None reset e = absurd (none-some reset (sym e))
kept_from (Some line) reset e = (line, refl, same_Some reset (reset_line line) e)

module _ (said : Said) (lines : List Line) (stands : Stands said lines) (some : said.rows ≡ 0 → ⊥) where
  open_rows : closing_fault lines ≡ reset_unknown (state_names lines) (line_with Reset lines)
  open_rows =
      let test : eqb (length (row_lines lines)) 0 ≡ false = ne_eqb (length (row_lines lines)) 0 (λ e. some (stands.rows ∙ e)) in
      ap (λ t. cond t (Some (record { line = 0; kind = NoRows })) (reset_unknown (state_names lines) (line_with Reset lines))) test

  module _ (reset : ResetLine) (is : said.reset ≡ Some reset) where
    line : (l : Line) × (line_with Reset lines ≡ Some l) × (reset ≡ reset_line l)
    line = kept_from (line_with Reset lines) reset (sym is ∙ stands.reset)

    test_of : (found : Bool) → among reset.name said.states ≡ found → closing_fault lines ≡ cond found None (Some (record { line = reset.number; kind = ResetUnknown }))
    test_of found same =
        let there : among (field_at 1 line.0) (state_names lines) ≡ found =
        sym (seen_among (field_at 1 line.0) lines)
        ∙ (ap (λ names. among (field_at 1 line.0) names) (sym stands.states) ∙ (ap (λ r. among r.name said.states) (sym line.2) ∙ same)) in
        open_rows
        ∙ (ap (reset_unknown (state_names lines)) line.1
        ∙ (ap (λ t. cond t None (Some (record { line = line.0.number; kind = ResetUnknown }))) there
        ∙ ap (λ r. cond found None (Some (record { line = r.number; kind = ResetUnknown }))) (sym line.2)))

    pub reset_known : Contains said.states reset.name → closing_fault lines ≡ None
    reset_known there = test_of true (contained_test said.states reset.name there)

    pub reset_missing : (Contains said.states reset.name → ⊥) → closing_fault lines ≡ Some (record { line = reset.number; kind = ResetUnknown })
    reset_missing absent = test_of false (absent_test said.states reset.name absent)

-- where the lines as a whole have no fault, there is a row, and the name of `.r` is a state
pub some_rows : (lines : List Line) → closing_fault lines ≡ None → 0 < length (row_lines lines)
some_rows lines closed =
    elim (cases_eq (length (row_lines lines)) 0) [
      | inl none ↦
          let test : eqb (length (row_lines lines)) 0 ≡ true = eq-eqb (length (row_lines lines)) 0 none in
          absurd (none-some (record { line = 0; kind = NoRows }) (sym closed ∙ ap (λ t. cond t (Some (record { line = 0; kind = NoRows })) (reset_unknown (state_names lines) (line_with Reset lines))) test))
      | inr some ↦ omega arith
    ]

pub reset_state : (lines : List Line) (named : Line) → closing_fault lines ≡ None → line_with Reset lines ≡ Some named → Contains (state_names lines) (field_at 1 named)
reset_state lines named closed is =
    let some = some_rows lines closed in
    let test : eqb (length (row_lines lines)) 0 ≡ false = ne_eqb (length (row_lines lines)) 0 (λ e. absurd (omega arith)) in
    let at : cond {A = Option KissFault} (among (field_at 1 named) (state_names lines)) None (Some (record { line = named.number; kind = ResetUnknown })) ≡ None =
    sym (ap (reset_unknown (state_names lines)) is)
    ∙ (sym (ap (λ t. cond t (Some (record { line = 0; kind = NoRows })) (reset_unknown (state_names lines) (line_with Reset lines))) test) ∙ closed) in
    contained_from_test (state_names lines) (field_at 1 named) (known (among (field_at 1 named) (state_names lines)) at) where
      known : (test : Bool) → cond {A = Option KissFault} test None (Some (record { line = named.number; kind = ResetUnknown })) ≡ None → test ≡ true
      known true e = refl
      known false e = absurd (none-some (record { line = named.number; kind = ResetUnknown }) (sym e))

-- the name of `.r` is a state
pub reset_is_known : (lines : List Line) (reset : Option ResetLine) → closing_fault lines ≡ None → reset ≡ option_map reset_line (line_with Reset lines) → IfSome reset (λ line. Contains (state_names lines) line.name)
reset_is_known lines None closed is = tt
reset_is_known lines (Some reset) closed is =
    let from = kept_from (line_with Reset lines) reset is in
    subst (λ r. Contains (state_names lines) r.name) (sym from.2) (reset_state lines from.0 closed from.1)

zip_first : {A B : Type 0} (R : A → B → Type 0) (xs : List A) (ys : List B) → AllZip R xs ys → 0 < length xs → (x : A) × (slice_get xs 0 ≡ Some x) × ((d : B) → R x (get_or ys 0 d))
zip_first R [] ys all some = absurd (omega arith)
zip_first R (x ∷ xs) [] all some = absurd all
zip_first R (x ∷ xs) (y ∷ ys) all some = (x, refl, λ d. all.0)

some_of : {A B : Type 0} (R : A → B → Type 0) (xs : List A) (ys : List B) → AllZip R xs ys → 0 < length xs → B
some_of R [] ys all some = absurd (omega arith)
some_of R (x ∷ xs) [] all some = absurd all
some_of R (x ∷ xs) (y ∷ ys) all some = y

pub zip_some : {A B : Type 0} (R : A → B → Type 0) (xs : List A) (ys : List B) → AllZip R xs ys → 0 < length xs → 0 < length ys
zip_some R [] ys all some = absurd (omega arith)
zip_some R (x ∷ xs) [] all some = absurd all
zip_some R (x ∷ xs) (y ∷ ys) all some = omega arith

no_line : (line : Option Line) → None ≡ option_map reset_line line → line ≡ None
no_line None e = refl
no_line (Some line) e = absurd (none-some (reset_line line) e)

-- the number of the reset state is that of its name
pub reset_number :
    (lines : List Line) (states : List (List ℕ)) (rows : List KissRow) (reset : Option ResetLine) (number : ℕ)
    → reset ≡ option_map reset_line (line_with Reset lines) → IfSome reset (λ line. slice_get states number ≡ Some line.name)
    → IfNone reset ((d : KissRow) → number ≡ (get_or rows 0 d).from) → AllZip (IsRowOf states) (row_lines lines) rows → 0 < length (row_lines lines)
    → slice_get states number ≡ reset_name lines
reset_number lines states rows (Some reset) number is named first all some =
    let from = kept_from (line_with Reset lines) reset is in
    named ∙ (ap (λ r. Some r.name) from.2 ∙ sym (ap (λ o. option_or (option_map (field_at 1) o) (option_map current_field (slice_get (row_lines lines) 0))) from.1))
reset_number lines states rows None number is named first all some =
    let none = no_line (line_with Reset lines) is in
    let row = zip_first (IsRowOf states) (row_lines lines) rows all some in
    let d = some_of (IsRowOf states) (row_lines lines) rows all some in
    ap (λ n. slice_get states n) (first d)
    ∙ ((row.2 d).from
    ∙ (sym (ap (option_map current_field) row.1)
    ∙ sym (ap (λ o. option_or (option_map (field_at 1) o) (option_map current_field (slice_get (row_lines lines) 0))) none)))
