use Rattle.std.proofs.Common.{arith}
use Rattle.set_benchmarks.proofs.worlds.plain_meet.Goals as goal

pub same-requires-clause-s : goal.same-requires-clause-s
same-requires-clause-s c = omega (arith, c.loop-s-test.true, c.len-s-end.ensures.len)

pub same-requires-clause-t : goal.same-requires-clause-t
same-requires-clause-t c = omega (arith, c.loop-t-test.true, c.len-t-end.ensures.len)

pub same-requires-then-same-clause-s : goal.same-requires-then-same-clause-s
same-requires-then-same-clause-s c = omega (arith, c.loop-s-test.true, c.len-s-end.ensures.len, c.requires)

pub same-requires-then-same-clause-t : goal.same-requires-then-same-clause-t
same-requires-then-same-clause-t c = omega (arith, c.loop-t-test.true, c.len-t-end.ensures.len, c.requires)
