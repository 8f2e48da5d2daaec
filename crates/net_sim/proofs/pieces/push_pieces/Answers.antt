use Rattle.std.proofs.Common.{◌∙◌}
use Rattle.std.specs.List.{list_any}
use Rattle.net_core.specs.Step.{row_holds}
use Rattle.net_sim.specs.Inner.Pieces.{pieces_hold}
use Rattle.net_sim.proofs.FormValues.{or_false}
use Rattle.net_sim.proofs.Rows.{row_holds_other}
use Rattle.net_sim.proofs.pieces.push_pieces.Goals as goal

pub returns-then-row-width-clause-held : goal.returns-then-row-width-clause-held
returns-then-row-width-clause-held c =
    λ symbol same.
    or_false (list_any (λ cubes. pieces_hold cubes symbol) c.args.rows.now) (row_holds c.args.row.now symbol)
    (row_holds_other c.args.row.now symbol (λ e. c.if-row-width.true (e ∙ same)))
