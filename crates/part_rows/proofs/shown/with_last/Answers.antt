use Rattle.std.proofs.Common.{refl}
use Rattle.part_rows.proofs.OwnBits.{last_bit}
use Rattle.part_rows.proofs.shown.with_last.Goals as goal

pub returns-then-last : goal.returns-then-last
returns-then-last c list is = last_bit list c.args.bits _ c.args.last is c.requires refl (rw c.if-last.true refl)

pub returns-else-last : goal.returns-else-last
returns-else-last c list is = last_bit list c.args.bits _ c.args.last is c.requires refl (rw c.if-last.false refl)
