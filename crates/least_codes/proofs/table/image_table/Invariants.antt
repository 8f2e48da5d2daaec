use Rattle.std.proofs.Common.{take}
use Rattle.least_codes.specs.Inner.Table.{IsTableOf}
use Rattle.least_codes.proofs.table.image_table.Given as goal

abbrev pub invariant-loop-pair : goal.invariant-loop-pair
invariant-loop-pair l = IsTableOf l.m (take l.pair-index l.pair-items) l.table.items
