use Rattle.std.proofs.Common.{take}
use Rattle.least_codes.specs.Inner.Table.{AreApartIn}
use Rattle.least_codes.proofs.table.apart_at.Given as goal

abbrev pub invariant-loop-row : goal.invariant-loop-row
invariant-loop-row l = AreApartIn (take l.row-index l.table) l.words l.i l.apart.items
