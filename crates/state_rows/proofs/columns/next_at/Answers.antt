use Rattle.std.proofs.Common.{ℕ, ◌≡◌, ◌<◌, List, length, get_or, sym, ◌∙◌, ap, arith}
use Rattle.std.proofs.lemmas.List.{get_or_default}
use Rattle.std.proofs.lemmas.Option.{get_or_from_slice_get, slice_get_within}
use Rattle.kiss_file.specs.declared.file.KissRow.{KissRow}
use Rattle.state_rows.proofs.columns.next_at.Goals as goal

-- the number that was read is that at the place
number_at : (numbers : List ℕ) (place number : ℕ) → place < length numbers → number ≡ get_or numbers place number → get_or numbers place 0 ≡ number
number_at numbers place number below read = get_or_default numbers place 0 number below ∙ sym read

pub returns-in_err-number : goal.returns-in_err-number
returns-in_err-number c row at = absurd (omega (arith, at.0, c.in_err-number.ensures.lookup.3))

pub returns-in_err-get : goal.returns-in_err-get
returns-in_err-get c row at =
    let numbers = c.args.numbers.now in
    let place = c.args.place in
    let same : get_or numbers place 0 ≡ c.in_ok-number.field-0.now = number_at numbers place c.in_ok-number.field-0.now at.0 c.in_ok-number.ensures.lookup.1 in
    absurd (omega (arith, same, slice_get_within c.args.rows.now (get_or numbers place 0) row at.1, c.in_err-get.ensures.lookup.3))

pub returns : goal.returns
returns c row at =
    let rows = c.args.rows.now in
    let numbers = c.args.numbers.now in
    let place = c.args.place in
    let got = c.in_ok-get.field-0.now in
    let same : get_or numbers place 0 ≡ c.in_ok-number.field-0.now = number_at numbers place c.in_ok-number.field-0.now at.0 c.in_ok-number.ensures.lookup.1 in
    ap (λ (one : KissRow). one.to)
    (c.in_ok-get.ensures.lookup.1 ∙ ap (λ (n : ℕ). get_or rows n got) (sym same) ∙ get_or_from_slice_get rows (get_or numbers place 0) row got at.1)
