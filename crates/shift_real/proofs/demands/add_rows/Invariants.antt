-- The demands of the rows so far were added.
use Rattle.std.proofs.Common.{◌≡◌, ◌++◌, take}
use Rattle.std.specs.List.{filter_map}
use Rattle.shift_real.specs.Inner.ContentDemands.{asked_by}
use Rattle.shift_real.proofs.demands.add_rows.Given as goal

abbrev pub invariant-loop-row : goal.invariant-loop-row
invariant-loop-row l = l.demands.items ≡ l.initial.demands.items ++ filter_map (asked_by l.b l.number) (take l.row-index l.rows)
