-- The lines of the partitions so far were appended.
use Rattle.std.proofs.Common.{◌≡◌, take}
use Rattle.std.specs.List.{flat_map}
use Rattle.machine_reports.specs.StateTexts.{state_line}
use Rattle.machine_reports.proofs.listings.bit_lines.Given as goal

abbrev pub invariant-loop-part : goal.invariant-loop-part
invariant-loop-part l = l.text.items ≡ flat_map (state_line l.shown l.names) (take l.part-index l.parts)
