-- The lines of the states so far were appended.
use Rattle.std.proofs.Common.{◌≡◌, ◌++◌, take}
use Rattle.std.specs.List.{flat_map, zip}
use Rattle.blif_out.specs.Inner.Pieces.{state_line}
use Rattle.blif_out.proofs.header_text.append_states.Given as goal

abbrev pub invariant-loop-number : goal.invariant-loop-number
invariant-loop-number l = l.text.items ≡ l.initial.text.items ++ flat_map (state_line l.bits) (take l.number (zip l.states l.words))
