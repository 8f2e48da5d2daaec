-- The lines of the items so far were appended.
use Rattle.std.proofs.Common.{◌≡◌, ◌++◌, take}
use Rattle.std.specs.List.{flat_map}
use Rattle.blif_out.specs.Inner.Pieces.{latch_line}
use Rattle.blif_out.proofs.network_text.append_latches.Given as goal

abbrev pub invariant-loop-latch : goal.invariant-loop-latch
invariant-loop-latch l = l.text.items ≡ l.initial.text.items ++ flat_map (latch_line l.design) (take l.latch-index l.latches)
