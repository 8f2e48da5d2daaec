use Rattle.std.proofs.Common.{◌≡◌, take}
use Rattle.std.specs.List.{flat_map}
use Rattle.case_lines.specs.Escapes.{escape_of}
use Rattle.case_lines.proofs.escapes.escaped.Given as goal

abbrev pub invariant-loop-byte : goal.invariant-loop-byte
invariant-loop-byte l = l.text.items ≡ flat_map escape_of (take l.byte-index l.bytes)
