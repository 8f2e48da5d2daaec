use Rattle.std.proofs.Common.{◌≡◌, take}
use Rattle.std.specs.List.{filter}
use Rattle.cover_logic.specs.Inner.Sides.{is_on_side}
use Rattle.cover_logic.proofs.index.part.Given as goal

abbrev pub invariant-loop-term : goal.invariant-loop-term
invariant-loop-term l = l.part.items ≡ filter (is_on_side l.side l.column) (take l.term-index l.terms)
