use Rattle.std.proofs.Common.{sym, ◌∙◌}
use Rattle.net_sim.proofs.ValueTables.{value_of_held, value_without_places}
use Rattle.net_sim.proofs.value_tables.shared_value.Goals as goal
use Rattle.net_sim.proofs.value_tables.shared_value.Goals.{then-places-eq0, else-places-eq0}

pub returns-then-some_is_open-clause-some : goal.returns-then-some_is_open-clause-some
returns-then-some_is_open-clause-some c = λ k.
    elim c.if-places-eq0.branch [
      | then-places-eq0 w ↦ value_without_places c.args.on c.args.cubes.now c.args.places k w.if-places-eq0.true (sym c.is_empty.ensures ∙ c.if-is_empty.false)
      | else-places-eq0 w ↦ value_of_held c.args.on c.args.cubes.now c.args.places k (w.some_is_open.ensures (sym w.value-is ∙ c.if-some_is_open.true) k)
    ]
