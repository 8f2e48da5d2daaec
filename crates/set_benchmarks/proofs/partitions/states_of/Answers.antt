use Rattle.std.proofs.Common.{arith}
use Rattle.set_benchmarks.proofs.partitions.states_of.Goals as goal

pub returns-in_default-3 : goal.returns-in_default-3
returns-in_default-3 c = (omega (arith, c.if-size-lt2.false), c.if-size-gt256.false)
