use Rattle.std.proofs.Common.{take}
use Rattle.cover_logic.specs.Inner.Nodes.{IsAdded}
use Rattle.cover_logic.proofs.index.add_each.Given as goal

abbrev pub invariant-loop-term : goal.invariant-loop-term
invariant-loop-term l = IsAdded l.fn.nodes.items (take l.term-index l.terms) l.nodes.items
