use Rattle.std.proofs.Common.{◌-◌, ◌^◌}
use Rattle.cover_terms.proofs.chart.+fill.Given as goal

abbrev pub decreases-fill : goal.decreases-fill
decreases-fill l = 2 ^ 128 - l.row.care
