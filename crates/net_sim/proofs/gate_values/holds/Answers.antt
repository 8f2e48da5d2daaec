use Rattle.std.proofs.Common.{sym, ◌∙◌, false, get_or}
use Rattle.std.proofs.lemmas.List.{length-map}
use Rattle.net_sim.specs.Inner.GateValues.{bits_at}
use Rattle.net_sim.proofs.Rows.{row_holds_other}
use Rattle.net_sim.proofs.gate_values.holds.Goals as goal

pub returns-then-row-numbers : goal.returns-then-row-numbers
returns-then-row-numbers c =
    sym (row_holds_other c.args.row.now (bits_at c.args.signals.now c.args.numbers.now)
    (λ e. c.if-row-numbers.true (e ∙ length-map c.args.numbers.now (λ s. get_or c.args.signals.now s false))))
