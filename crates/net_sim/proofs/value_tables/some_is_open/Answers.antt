use Rattle.net_sim.proofs.ValueTables.{open_at}
use Rattle.net_sim.proofs.value_tables.some_is_open.Goals as goal

pub returns-then-cube-places-eq0 : goal.returns-then-cube-places-eq0
returns-then-cube-places-eq0 c = λ yes. open_at c.args.cubes.now c.loop-cube.cube-index c.args.places c.cube-item.result c.requires c.loop-cube-test.true c.cube-item.is c.if-cube-places-eq0.true
