use Rattle.std.proofs.Common.{◌∙◌}
use Rattle.state_rows.specs.Laws.Outputs.{given_in_all}
use Rattle.machine_table.proofs.open_entry.is_full.Goals as goal

pub returns : goal.returns
returns c passed = (c.if-is_none.ensures, λ b within. given_in_all c.args.row.now c.args.outputs b (c.if-row-all_outputs.false ∙ c.all_outputs.ensures) within)
