-- The codes of the pairs so far were appended.
use Rattle.std.proofs.Common.{◌≡◌, ◌++◌, take}
use Rattle.std.specs.List.{flat_map, zip}
use Rattle.cover_texts.specs.Inner.Pieces.{pair_line}
use Rattle.cover_texts.proofs.lines.append_pairs.Given as goal

abbrev pub invariant-loop-i : goal.invariant-loop-i
invariant-loop-i l = l.text.items ≡ l.initial.text.items ++ flat_map (pair_line l.states l.bits) (take l.i (zip l.pairs l.words))
