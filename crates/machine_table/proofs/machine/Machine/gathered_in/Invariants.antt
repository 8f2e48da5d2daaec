use Rattle.machine_table.specs.Inner.Gathered.{ArePartsOf}
use Rattle.machine_table.proofs.machine.Machine.gathered_in.Given as goal

abbrev pub invariant-loop-tree : goal.invariant-loop-tree
invariant-loop-tree l = ArePartsOf l.self l.s l.x l.found
