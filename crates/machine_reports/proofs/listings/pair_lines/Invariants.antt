-- The lines of the pairs so far were appended.
use Rattle.std.proofs.Common.{◌≡◌, map, take}
use Rattle.std.specs.List.{flat_map}
use Rattle.mm_lattice.specs.Sides.{sides_of}
use Rattle.machine_reports.specs.StateTexts.{state_pair_line}
use Rattle.machine_reports.proofs.listings.pair_lines.Given as goal

abbrev pub invariant-loop-pair : goal.invariant-loop-pair
invariant-loop-pair l = l.text.items ≡ flat_map (state_pair_line l.shown l.names) (map sides_of (take l.pair-index l.pairs))
