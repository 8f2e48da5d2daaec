-- The lines of the items so far were appended.
use Rattle.std.proofs.Common.{◌≡◌, ◌++◌, take}
use Rattle.std.specs.List.{flat_map}
use Rattle.blif_out.specs.Inner.Pieces.{gate_lines}
use Rattle.blif_out.proofs.network_text.append_gates.Given as goal

abbrev pub invariant-loop-gate : goal.invariant-loop-gate
invariant-loop-gate l = l.text.items ≡ l.initial.text.items ++ flat_map gate_lines (take l.gate-index l.gates)
