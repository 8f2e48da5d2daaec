use Rattle.partition.proofs.BlockRows.{ArePut}
use Rattle.partition.proofs.bits.rows.put_states.Given as goal

abbrev pub invariant-loop-s : goal.invariant-loop-s
invariant-loop-s l = ArePut l.labels l.numbers l.rows l.width l.s
