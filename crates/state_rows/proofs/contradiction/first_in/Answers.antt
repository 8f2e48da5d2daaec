use Rattle.std.proofs.Common.{ℕ, Contains, List, length, get_or, slice_get, ap, sym, ◌∙◌, subst, arith}
use Rattle.state_rows.specs.Bundles.{IsFirstAgainst}
use Rattle.state_rows.proofs.Against.{first_at_mark, first_of_later, first_without_mark}
use Rattle.state_rows.proofs.contradiction.first_in.Goals as goal

pub returns-in_err-below-clause-found : goal.returns-in_err-below-clause-found
returns-in_err-below-clause-found c rows known =
    let bundle = c.args.bundle.now in
    let row = c.args.row.now in
    subst (IsFirstAgainst rows (Contains bundle.numbers) c.args.number row) (sym c.from_residual-in_err-below.ensures)
    (first_of_later rows row bundle known c.args.number c.in_ok-first.field-0.now
    (ap (λ (list : List ℕ). slice_get list 0) (sym c.as_slice-numbers.ensures) ∙ sym c.in_ok-first.ensures.value) c.in_err-below.ensures.none)

pub returns-in_err-place-clause-found : goal.returns-in_err-place-clause-found
returns-in_err-place-clause-found c rows known =
    let bundle = c.args.bundle.now in
    let row = c.args.row.now in
    subst (IsFirstAgainst rows (Contains bundle.numbers) c.args.number row) (sym c.from_residual-in_err-place.ensures)
    (first_without_mark rows row bundle known c.contradicting-marks.result (c.contradicting-marks.ensures rows known) c.args.number c.in_err-place.ensures.none)

pub returns-in_err-earlier-clause-found : goal.returns-in_err-earlier-clause-found
returns-in_err-earlier-clause-found c rows known =
    let none = c.in_err-earlier.ensures.lookup in
    let marks = c.contradicting-marks.ensures rows known in
    let inside = marks.no_more c.in_ok-place.place c.in_ok-place.ensures.first.marked in
    absurd (omega (arith, none.3, inside, ap (λ (list : List ℕ). length list) c.as_slice-numbers.ensures))

pub returns-clause-found : goal.returns-clause-found
returns-clause-found c rows known =
    let found = c.in_ok-earlier.ensures.lookup in
    let place = c.in_ok-place.place in
    let earlier = c.in_ok-earlier.earlier.now in
    first_at_mark rows c.args.row.now c.args.bundle.now known c.contradicting-marks.result (c.contradicting-marks.ensures rows known) c.args.number place earlier c.below-2.result
    c.in_ok-place.ensures.first (found.1 ∙ ap (λ (list : List ℕ). get_or list place earlier) c.as_slice-numbers.ensures) c.below-2.ensures.some c.below-2.ensures.none
