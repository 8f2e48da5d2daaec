use Rattle.cover_terms.proofs.Charts.{IsClearedBelow}
use Rattle.cover_terms.proofs.chart.clear.Given as goal

abbrev pub invariant-loop-value : goal.invariant-loop-value
invariant-loop-value l = IsClearedBelow l.value l.marks l.initial.chart l.chart
