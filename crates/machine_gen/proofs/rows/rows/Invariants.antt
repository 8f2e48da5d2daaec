use Rattle.machine_gen.specs.Words.{word}
use Rattle.machine_gen.proofs.Numbered.{AreRowsBelow}
use Rattle.machine_gen.proofs.rows.rows.Given as goal

abbrev pub invariant-loop-number : goal.invariant-loop-number
invariant-loop-number l = AreRowsBelow (word l.fn.seed) l.a l.b l.k l.number l.rows
