use Rattle.std.proofs.Common.{◌+◌, ◌*◌, ℕ, false, get_or, length-take, take, refl, ◌∙◌, ap, arith}
use Rattle.cubes.specs.Symbol.{number_of}
use Rattle.net_sim.proofs.Binary.{bit_at_most, number_more, room_for_bit}
use Rattle.net_sim.proofs.symbols.number_in.Goals as goal

pub loop-bit-init : goal.loop-bit-init
unfolding number_of
loop-bit-init c = refl

pub overflow_mul-number : goal.overflow_mul-number
overflow_mul-number c =
    let bits = take c.loop-bit.bit-index c.args.symbol.now in
    omega (arith, c.loop-bit.invariant, room_for_bit bits 32 (omega (arith, length-take c.loop-bit.bit-index c.args.symbol.now)))

pub overflow_add-number : goal.overflow_add-number
overflow_add-number c =
    let i = c.loop-bit.bit-index in
    let bits = take i c.args.symbol.now in
    omega (arith, c.loop-bit.invariant, c.from.ensures, bit_at_most (get_or c.args.symbol.now i false), room_for_bit bits 32 (omega (arith, length-take i c.args.symbol.now)))

pub loop-bit-preserved : goal.loop-bit-preserved
loop-bit-preserved c =
    ap (λ (n : ℕ). c.loop-bit.number * 2 + n) c.from.ensures ∙ number_more c.args.symbol.now c.loop-bit.bit-index c.loop-bit.number c.loop-bit-test.true c.loop-bit.invariant
