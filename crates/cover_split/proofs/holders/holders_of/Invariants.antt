use Rattle.cover_split.specs.Inner.Holders.{AreHolders}
use Rattle.cover_split.proofs.holders.holders_of.Given as goal

abbrev pub invariant-loop-j : goal.invariant-loop-j
invariant-loop-j l = AreHolders l.blocks l.s l.j l.holders
