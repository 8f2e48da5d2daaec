use Rattle.std.proofs.Common.{take}
use Rattle.cover_logic.specs.Inner.Entries.{HoldsRivals}
use Rattle.cover_logic.proofs.rivals.sole_left.Given as goal

abbrev pub invariant-loop-entry : goal.invariant-loop-entry
invariant-loop-entry l = HoldsRivals l.fn.number l.left (take l.entry-index l.entry-items) l.others.items
