use Rattle.cover_logic.specs.Inner.Lasts.{AreLasts}
use Rattle.cover_logic.proofs.lasts.lasts_on.Given as goal

abbrev pub invariant-loop-i : goal.invariant-loop-i
invariant-loop-i l = AreLasts l.width l.rows l.i l.chart.items
