use Rattle.part_machines.specs.Inner.Gathered.{AreWordsOf}
use Rattle.part_machines.proofs.part_inputs.words_of_gates.Given as goal

abbrev pub invariant-loop-i : goal.invariant-loop-i
invariant-loop-i l = AreWordsOf l.sets l.gates l.i l.read
