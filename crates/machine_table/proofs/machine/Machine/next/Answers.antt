use Rattle.std.proofs.Common.{ℕ, ◌≡◌, get_or, None, IsNone, Option, refl, sym, ◌∙◌, subst, arith}
use Rattle.std.proofs.lemmas.List.Elements.{Contains-get_or}
use Rattle.cubes.specs.Symbol.{symbol_of}
use Rattle.kiss_file.specs.declared.file.KissRow.{KissRow}
use Rattle.kiss_file.specs.Laws.Machine.{next_not_said, next_said}
use Rattle.state_pairs.specs.Laws.Asking.{is_row_at, of_each_row}
use Rattle.machine_table.proofs.machine.Machine.next.Goals as goal

pub returns-in-loop-number-clause-next : goal.returns-in-loop-number-clause-next
returns-in-loop-number-clause-next c =
    let F = c.args.self.now in
    let asked = c.numbers_of-number-items in
    let i = get_or asked.result.now c.loop-number.number-index 0 in
    let at = is_row_at F asked.ensures.table c.args.s c.args.x i c.row-row.result.now
    (asked.ensures.own i (Contains-get_or asked.result.now c.loop-number.number-index 0 c.loop-number-test.true)) c.row-row.ensures.row
    (c.holds.ensures.0 c.if-holds.true) in
    c.from.ensures ∙ sym (next_said F c.args.s (symbol_of F.inputs c.args.x) asked.ensures.no_conflict c.row-row.result.now c.in-Some.t at c.in-Some.is)

pub returns-clause-next : goal.returns-clause-next
returns-clause-next c =
    let F = c.args.self.now in
    let asked = c.numbers_of-number-items in
    sym (next_not_said F c.args.s (symbol_of F.inputs c.args.x)
    (of_each_row F asked.ensures.table c.args.s c.args.x asked.result.now (λ (row : KissRow). IsNone row.to) asked.ensures.each
    (λ k d row within at_row held.
    let none : row.to ≡ None = c.loop-number.invariant k d row (omega (arith, within, c.loop-number-test.false)) at_row held in
    subst (λ (t : Option ℕ). IsNone t) (sym none) refl)))
