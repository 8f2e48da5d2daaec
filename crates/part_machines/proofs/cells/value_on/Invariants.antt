use Rattle.part_machines.proofs.Spelling.{IsSpelled}
use Rattle.part_machines.proofs.cells.value_on.Given as goal

abbrev pub invariant-loop-c : goal.invariant-loop-c
invariant-loop-c l = IsSpelled l.word l.bits l.c-index l.value
