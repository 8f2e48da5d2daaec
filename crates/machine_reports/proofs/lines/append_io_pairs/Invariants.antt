-- The lines of the pairs so far were appended.
use Rattle.std.proofs.Common.{◌≡◌, ◌++◌, map, take}
use Rattle.std.specs.List.{flat_map}
use Rattle.io_pairs.specs.Sides.{sides_of}
use Rattle.machine_reports.specs.ListTexts.{pair_line}
use Rattle.machine_reports.proofs.lines.append_io_pairs.Given as goal

abbrev pub invariant-loop-pair : goal.invariant-loop-pair
invariant-loop-pair l = l.text.items ≡ l.fn.text.items ++ flat_map pair_line (map sides_of (take l.pair-index l.pairs))
