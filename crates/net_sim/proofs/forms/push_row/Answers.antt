use Rattle.std.proofs.Common.{Err, ◌∙◌, ap}
use Rattle.std.specs.List.{list_any}
use Rattle.cubes.specs.Cube.{holds}
use Rattle.net_core.specs.Step.{row_holds}
use Rattle.net_sim.proofs.FormValues.{held_on_push, no_cube, or_false}
use Rattle.net_sim.proofs.forms.push_row.Goals as goal

pub returns-in-Ok-clause-held : goal.returns-in-Ok-clause-held
returns-in-Ok-clause-held c = held_on_push c.push.result c.args.cubes.now c.push.new.self c.in-Ok.cube c.args.row.now c.args.width c.in-Ok.ensures.spelled c.push.ensures.ok

pub returns-in-Err-clause-held : goal.returns-in-Err-clause-held
returns-in-Err-clause-held c =
    λ symbol wide.
    or_false (list_any (λ cube. holds cube symbol) c.args.cubes.now) (row_holds c.args.row.now symbol)
    (no_cube c.args.row.now c.args.width symbol c.in-Err.field-0 wide
    (λ found is. ((c.parse.ensures.bad_width found).0 (c.in-Err.is ∙ ap Err is)).0)
    (λ place is. ((c.parse.ensures.bad_char place).0 (c.in-Err.is ∙ ap Err is)).1))
