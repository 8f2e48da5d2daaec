use Rattle.std.proofs.Common.{◌≡◌, false, length, get_or, sym, ◌∙◌, arith}
use Rattle.std.proofs.lemmas.List.{ext_get_or, get_or-map, length-map}
use Rattle.net_sim.specs.Inner.GateValues.{bits_at}
use Rattle.net_sim.proofs.step.read_signals.Goals as goal

pub returns : goal.returns
returns c =
    λ same.
    let signals = c.args.signals.now in
    let numbers = c.args.numbers.now in
    let lengths : length c.loop-place.bits ≡ length (bits_at signals numbers) = omega (arith, same, length-map numbers (λ s. get_or signals s false)) in
    ext_get_or false c.loop-place.bits (bits_at signals numbers) lengths
    (λ k lt. c.loop-place.invariant k (omega (arith, c.min-place-end.ensures)) ∙ sym (get_or-map (λ s. get_or signals s false) numbers k 0 false (omega arith)))
