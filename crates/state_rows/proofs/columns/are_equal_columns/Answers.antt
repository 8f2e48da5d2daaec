use Rattle.std.proofs.Common.{◌≡◌}
use Rattle.state_rows.proofs.KeptColumns.{equal_next, name_one, same_option}
use Rattle.state_rows.proofs.columns.are_equal_columns.Goals as goal

pub loop-s-preserved : goal.loop-s-preserved
loop-s-preserved c =
    let rows = c.args.rows.now in
    let numbers = c.list_of-numbers.result.now in
    let same : c.next_at.result ≡ c.next_at-in-loop-s.result =
    same_option c.next_at.result c.next_at-in-loop-s.result c.if-ne.ensures in
    equal_next rows c.args.places.now c.args.states.now c.loop-s.s-index c.args.first c.args.second numbers c.loop-s-test.true c.list_of-numbers.ensures
    (name_one rows numbers c.args.first c.args.second c.next_at.result c.next_at-in-loop-s.result c.next_at.ensures c.next_at-in-loop-s.ensures same) c.loop-s.invariant
