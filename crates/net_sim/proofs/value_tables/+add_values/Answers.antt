use Rattle.std.proofs.Common.{◌∙◌}
use Rattle.net_sim.proofs.ValueTables.{both_added}
use Rattle.net_sim.proofs.value_tables.+add_values.Goals as goal

pub returns : goal.returns
returns t c =
    both_added c.add_values-2.result c.args.on c.args.cubes.now c.deref.result.now c.deref-2.result.now c.args.places c.args.table.now c.add_values.new.table c.add_values-2.new.table
    c.in_default.ensures.none (c.deref.ensures.value ∙ c.in_ok-with_zero.ensures) (c.deref-2.ensures.value ∙ c.in_ok-with_one.ensures)
    c.in_ok-add_values.ensures c.add_values-2.ensures
