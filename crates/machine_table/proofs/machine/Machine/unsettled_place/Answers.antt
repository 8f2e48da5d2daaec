use Rattle.std.proofs.Common.{ℕ, ◌≡◌, slice_get, Some, subst, sym, arith}
use Rattle.kiss_file.specs.declared.file.KissRow.{KissRow}
use Rattle.machine_table.specs.Inner.SettledCubes.{IsAllOrNone}
use Rattle.state_pairs.specs.Laws.Asking.{looked_at, number_of_row}
use Rattle.machine_table.proofs.machine.Machine.unsettled_place.Goals as goal

pub loop-number-preserved : goal.loop-number-preserved
loop-number-preserved c =
    looked_at c.args.self.now.rows c.numbers_of-number-items.result.now c.loop-number.number-index (λ (r : KissRow). IsAllOrNone c.args.cube.now r.cube) c.row.result.now
    c.loop-number.invariant c.loop-number-test.true c.row.ensures.row c.in_default.ensures.none

pub returns-clause-none : goal.returns-clause-none
returns-clause-none c row of_state =
    let at_number = number_of_row c.args.self.now row of_state.0 in
    let place = c.numbers_of-number-items.ensures.each of_state.0.0 row at_number of_state.1 in
    c.loop-number.invariant place.0 of_state.0.0 row (omega (arith, place.1, c.loop-number-test.false))
    (subst (λ (n : ℕ). slice_get c.args.self.now.rows n ≡ Some row) (sym place.2) at_number)
