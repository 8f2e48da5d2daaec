use Rattle.cover_split.proofs.Holding.{IsSearchedAround}
use Rattle.cover_split.proofs.holders.least_around.Given as goal

abbrev pub invariant-loop-b : goal.invariant-loop-b
invariant-loop-b l = IsSearchedAround l.blocks l.a l.b-items l.b-index
