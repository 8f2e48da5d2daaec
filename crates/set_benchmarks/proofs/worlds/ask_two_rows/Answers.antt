use Rattle.std.proofs.Common.{arith}
use Rattle.set_benchmarks.proofs.worlds.ask_two_rows.Goals as goal

pub overflow_sub-last : goal.overflow_sub-last
overflow_sub-last c = omega (arith, c.len-last.ensures.lawful.count.0)

pub meet-requires : goal.meet-requires
meet-requires c = c.requires

pub same-requires-clause-s : goal.same-requires-clause-s
same-requires-clause-s c = omega (arith, c.in_ok-meet-in-meet.ensures.meet.lawful.length, c.in_ok-meet-in-meet.ensures.meet.lawful.count.0)

pub same-requires-clause-t : goal.same-requires-clause-t
same-requires-clause-t c = omega (arith, c.in_ok-meet-in-meet.ensures.meet.lawful.length, c.in_ok-meet-in-meet.ensures.meet.lawful.count.0, c.len-last.ensures.len)

pub join-requires : goal.join-requires
join-requires c = c.requires

pub same-requires-in-join-clause-s : goal.same-requires-in-join-clause-s
same-requires-in-join-clause-s c = omega (arith, c.in_ok-join-in-join.ensures.join.lawful.length, c.in_ok-join-in-join.ensures.join.lawful.count.0)

pub same-requires-in-join-clause-t : goal.same-requires-in-join-clause-t
same-requires-in-join-clause-t c = omega (arith, c.in_ok-join-in-join.ensures.join.lawful.length, c.in_ok-join-in-join.ensures.join.lawful.count.0, c.len-last.ensures.len)

pub before-requires : goal.before-requires
before-requires c = c.requires
