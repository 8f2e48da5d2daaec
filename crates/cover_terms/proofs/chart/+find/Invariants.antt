use Rattle.std.proofs.Common.{◌-◌, ◌^◌}
use Rattle.cover_terms.proofs.chart.+find.Given as goal

abbrev pub decreases-find : goal.decreases-find
decreases-find l = 2 ^ 128 - l.row.care
