use Rattle.std.proofs.Common.{arith}
use Rattle.cover_split.proofs.rows.place_in.Goals as goal

pub unreachable-requires : goal.unreachable-requires
unreachable-requires c =
    let there = c.requires in
    c.loop-place.invariant there.0 c.args.s (omega (arith, there.1)) there.2
