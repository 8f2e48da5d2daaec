use Rattle.part_machines.specs.Inner.Gathered.{IsWordOfOwner}
use Rattle.part_machines.proofs.part_inputs.word_of_owner.Given as goal

abbrev pub invariant-loop-c : goal.invariant-loop-c
invariant-loop-c l = IsWordOfOwner l.owners l.j l.c l.word
