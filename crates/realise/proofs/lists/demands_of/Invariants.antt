-- The demands of the rows so far.
use Rattle.std.proofs.Common.{◌≡◌, take}
use Rattle.std.specs.List.{filter_map}
use Rattle.realise.specs.Inner.Lists.{asked_by}
use Rattle.realise.proofs.lists.demands_of.Given as goal

abbrev pub invariant-loop-row : goal.invariant-loop-row
invariant-loop-row l = l.demands.items ≡ filter_map (asked_by l.words l.bit) (take l.row-index l.filled)
