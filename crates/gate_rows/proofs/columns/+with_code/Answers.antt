use Rattle.std.proofs.Common.{sym, ap, ◌∙◌}
use Rattle.cubes.specs.Symbol.{bit}
use Rattle.gate_rows.proofs.Literals.{with_last_bit}
use Rattle.gate_rows.proofs.columns.+with_code.Goals as goal

pub returns-clause-holds : goal.returns-clause-holds
returns-clause-holds t c =
    with_last_bit c.args.count c.args.word c.args.places.now c.in-Some.others.now c.in-Some.last.now _ c.args.start _ _
    c.in-Some.ensures.cases.0 (sym (c.bit.ensures ∙ ap (bit c.args.word) c.from.ensures)) c.with_code-term.ensures.holds c.with_literal.ensures.holds
