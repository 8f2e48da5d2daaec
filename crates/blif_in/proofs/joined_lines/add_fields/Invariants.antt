use Rattle.std.proofs.Common.{◌≡◌, ◌++◌, take}
use Rattle.blif_in.proofs.joined_lines.add_fields.Given as goal

abbrev pub invariant-loop-name : goal.invariant-loop-name
invariant-loop-name l = l.fields ≡ l.initial.fields ++ take l.name-index l.names
