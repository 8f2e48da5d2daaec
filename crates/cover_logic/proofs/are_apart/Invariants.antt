use Rattle.std.proofs.Common.{take}
use Rattle.std.specs.List.{All}
use Rattle.cover_logic.specs.Inner.Rows.{IsClear}
use Rattle.cover_logic.proofs.are_apart.Given as goal

abbrev pub invariant-loop-term : goal.invariant-loop-term
invariant-loop-term l = All (IsClear l.off) (take l.term-index l.on)
