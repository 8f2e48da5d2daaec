use Rattle.std.proofs.Common.{◌≡◌, ◌-◌, ◌*◌, ◌<◌, ◌≤◌, All, length, take}
use Rattle.net_sim.specs.Inner.GateValues.{bits_at}
use Rattle.net_sim.specs.Inner.Pieces.{HaveNumbered}
use Rattle.net_sim.proofs.pieces.number_pieces.Given as goal

abbrev pub invariant-loop-place : goal.invariant-loop-place
invariant-loop-place l = record {
  few : length l.inputs ≤ 32 * length l.numbers;
  left : length l.rest ≡ length l.inputs - 32 * l.place;
  within : All (λ s. s < length l.signals) l.rest;
  numbered : HaveNumbered (bits_at l.signals l.inputs) (bits_at l.signals l.rest) (take l.place l.numbers);
}
