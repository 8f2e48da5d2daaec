-- The numbers so far were appended.
use Rattle.std.proofs.Common.{◌≡◌, ◌++◌, take}
use Rattle.std.specs.List.{flat_map}
use Rattle.blif_out.specs.Inner.Pieces.{comma_number}
use Rattle.blif_out.proofs.fields.append_others.Given as goal

abbrev pub invariant-loop-number : goal.invariant-loop-number
invariant-loop-number l = l.text.items ≡ l.initial.text.items ++ flat_map comma_number (take l.number-index l.numbers)
