use Rattle.std.proofs.Common.{ℕ, ◌≡◌, slice_get, Some, sym, subst, arith}
use Rattle.machine_table.specs.Inner.OpenSymbol.{IsFull}
use Rattle.state_pairs.specs.Laws.Asking.{looked_at, number_of_row}
use Rattle.machine_table.proofs.machine.Machine.says_all.Goals as goal

pub loop-number-preserved : goal.loop-number-preserved
loop-number-preserved c =
    looked_at c.args.self.now.rows c.numbers_of-number-items.result.now c.loop-number.number-index (IsFull c.args.self.now.outputs) c.row-row.result.now
    c.loop-number.invariant c.loop-number-test.true c.row-row.ensures.row
    (subst (λ (n : ℕ). IsFull n c.row-row.result.now) c.outputs.ensures.count (c.is_full.ensures c.if-not-is_full.false))

pub returns : goal.returns
returns c passed row among from =
    let at_number = number_of_row c.args.self.now row among in
    let place = c.numbers_of-number-items.ensures.each among.0 row at_number from in
    c.loop-number.invariant place.0 among.0 row (omega (arith, place.1, c.loop-number-test.false))
    (subst (λ (n : ℕ). slice_get c.args.self.now.rows n ≡ Some row) (sym place.2) at_number)
