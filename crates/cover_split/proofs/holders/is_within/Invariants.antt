use Rattle.cover_split.proofs.Within.{IsWalked}
use Rattle.cover_split.proofs.holders.is_within.Given as goal

abbrev pub invariant-loop-t : goal.invariant-loop-t
invariant-loop-t l = IsWalked l.first l.second l.found l.t-index
