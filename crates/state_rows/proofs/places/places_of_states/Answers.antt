use Rattle.std.proofs.Common.{ℕ, ◌≡◌, ◌<◌, ◌+◌, [], ◌∷◌, ◌++◌, List, length, set, slice_get, Some, refl, sym, ap, ◌∙◌, subst, arith}
use Rattle.std.proofs.lemmas.Option.{get_or_from_slice_get, slice_get_read}
use Rattle.std.proofs.lemmas.Result.{IfOk-from_err}
use Rattle.kiss_file.specs.declared.file.KissRow.{KissRow}
use Rattle.state_rows.specs.Places.{ArePlaces, places_of}
use Rattle.state_rows.proofs.RowNumbers.{places_with_row}
use Rattle.state_rows.proofs.places.places_of_states.Goals as goal

pub loop-number-preserved : goal.loop-number-preserved
loop-number-preserved c =
    let rows = c.args.rows.now in
    let row = c.index-rows-number.result in
    let places = c.loop-number.places.items in
    let at_row : slice_get rows c.loop-number.number ≡ Some row =
    slice_get_read rows (length rows) c.loop-number.number row refl c.loop-number-test.true c.index-rows-number.is in
    let lawful : row.from < c.args.states =
    subst (λ (r : KissRow). r.from < c.args.states) (sym c.index-rows-number.is) (c.requires c.loop-number.number row c.loop-number-test.true) in
    let inside : c.from.result < length places = omega (arith, c.from.ensures, c.loop-number.invariant.size, lawful) in
    let own : places_of places c.from.result ≡ c.index_mut.result.now =
    get_or_from_slice_get places c.from.result c.index_mut.result.now []
    (slice_get_read places (length places) c.from.result c.index_mut.result.now refl inside c.index_mut.ensures.value) in
    let pushed : c.push.new.self ≡ places_of places row.from ++ c.loop-number.number ∷ [] =
    c.in_ok-push.ensures.ok ∙ ap (λ (numbers : List ℕ). numbers ++ c.loop-number.number ∷ []) (sym own ∙ ap (places_of places) c.from.ensures) in
    subst (λ (n : ℕ). ArePlaces rows c.args.states (c.loop-number.number + 1) (set places n c.push.new.self)) (sym c.from.ensures)
    (subst (λ (list : List ℕ). ArePlaces rows c.args.states (c.loop-number.number + 1) (set places row.from list)) (sym pushed)
    (places_with_row rows c.args.states c.loop-number.number places row c.loop-number.invariant at_row lawful))

pub returns : goal.returns
returns c = subst (λ (n : ℕ). ArePlaces c.args.rows.now c.args.states n c.loop-number.places.items) (omega arith) c.loop-number.invariant

pub returns-in_err-places : goal.returns-in_err-places
returns-in_err-places c = IfOk-from_err c.from_residual.result _ c.from_residual.ensures.0

pub returns-in_err-push : goal.returns-in_err-push
returns-in_err-push c = IfOk-from_err c.from_residual-in_err-push.result _ c.from_residual-in_err-push.ensures.0
