use Rattle.std.proofs.Common.{length}
use Rattle.operands.proofs.PartsRead.{HaveBeenRead}
use Rattle.operands.proofs.parts.read_parts.Given as goal

abbrev pub invariant-loop-piece : goal.invariant-loop-piece
invariant-loop-piece l = HaveBeenRead l.states l.text l.parts.items (length l.yielded)
