use Rattle.std.proofs.Common.{◌≡◌, count_by, map, sum, take}
use Rattle.comparisons.specs.Counts.{is_literal}
use Rattle.comparisons.proofs.network_counts.count_literals_in.Given as goal

abbrev pub invariant-loop-row : goal.invariant-loop-row
invariant-loop-row l = l.count ≡ sum (map (count_by is_literal) (take l.row-index l.rows))
