use Rattle.std.proofs.Common.{arith}
use Rattle.partition.proofs.Words.{first_bit}
use Rattle.partition.proofs.states.first_bit.Goals as goal

pub returns-then-word-ne0-clause-some : goal.returns-then-word-ne0-clause-some
returns-then-word-ne0-clause-some c = (first_bit c.args.words.now c.loop-i.i c.loop-i.invariant c.if-word-ne0.true (omega arith)).0

pub returns-then-word-ne0-clause-least : goal.returns-then-word-ne0-clause-least
returns-then-word-ne0-clause-least c = (first_bit c.args.words.now c.loop-i.i c.loop-i.invariant c.if-word-ne0.true (omega arith)).1
