-- The lines of the parts so far were appended.
use Rattle.std.proofs.Common.{◌≡◌, ◌++◌, take}
use Rattle.std.specs.List.{enumerate_from, flat_map}
use Rattle.blif_out.specs.Inner.Pieces.{part_line}
use Rattle.blif_out.proofs.header_text.append_parts.Given as goal

abbrev pub invariant-loop-number : goal.invariant-loop-number
invariant-loop-number l = l.text.items ≡ l.initial.text.items ++ flat_map part_line (take l.number (enumerate_from 0 l.parts))
