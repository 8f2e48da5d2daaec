use Rattle.std.proofs.Common.{◌≡◌, Bool, get_or, None, IsNone, Option, refl, sym, ◌∙◌, subst, arith}
use Rattle.std.proofs.lemmas.List.Elements.{Contains-get_or}
use Rattle.cubes.specs.Symbol.{symbol_of}
use Rattle.kiss_file.specs.declared.file.KissRow.{KissRow}
use Rattle.kiss_file.specs.Machine.{given_bit}
use Rattle.kiss_file.specs.Laws.Machine.{output_bit_not_said, output_bit_said}
use Rattle.state_pairs.specs.Laws.Asking.{is_row_at, of_each_row}
use Rattle.machine_table.proofs.machine.Machine.output_bit.Goals as goal

pub given-requires : goal.given-requires
given-requires c = omega (arith, c.requires.b, c.numbers_of-number-items.ensures.table.outputs)

pub returns-in-loop-number : goal.returns-in-loop-number
returns-in-loop-number c =
    let F = c.args.self.now in
    let asked = c.numbers_of-number-items in
    let i = get_or asked.result.now c.loop-number.number-index 0 in
    let at = is_row_at F asked.ensures.table c.args.s c.args.x i c.row-row.result.now
    (asked.ensures.own i (Contains-get_or asked.result.now c.loop-number.number-index 0 c.loop-number-test.true)) c.row-row.ensures.row
    (c.holds.ensures.0 c.if-holds.true) in
    sym (output_bit_said F c.args.s (symbol_of F.inputs c.args.x) asked.ensures.no_conflict c.row-row.result.now c.args.b c.in-Some.bit at
    (sym c.given.ensures ∙ c.in-Some.is))

pub returns : goal.returns
returns c =
    let F = c.args.self.now in
    let asked = c.numbers_of-number-items in
    sym (output_bit_not_said F c.args.s (symbol_of F.inputs c.args.x) c.args.b
    (of_each_row F asked.ensures.table c.args.s c.args.x asked.result.now (λ (row : KissRow). IsNone (given_bit c.args.b row)) asked.ensures.each
    (λ k d row within at_row held.
    let none : given_bit c.args.b row ≡ None = c.loop-number.invariant k d row (omega (arith, within, c.loop-number-test.false)) at_row held in
    subst (λ (t : Option Bool). IsNone t) (sym none) refl)))
