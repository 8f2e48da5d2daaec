use Rattle.std.proofs.Common.{◌≡◌, ◌≤◌, ◌*◌, take, length}
use Rattle.state_codes.specs.Code.{places_of}
use Rattle.state_codes.proofs.encoder.length_of.Given as goal

abbrev pub invariant-loop-j : goal.invariant-loop-j
invariant-loop-j l = record {
  few : l.bits ≤ 128 * l.j;
  size : l.bits ≡ length (places_of 0 (take l.j l.parts) (take l.j l.inners));
}
