use Rattle.std.proofs.Common.{◌<◌, ◌+◌, ◌*◌, ℕ, false, get_or, length, length-take, take, refl, sym, ◌∙◌, ap, arith}
use Rattle.cubes.specs.Symbol.{number_of}
use mir.Val.{bool_byte}
use Rattle.net_sim.specs.Inner.GateValues.{bits_at}
use Rattle.net_sim.proofs.Binary.{bit_at_most, number_push, room_for_bit}
use Rattle.net_sim.proofs.FormValues.{bits_more, count_bits}
use Rattle.net_sim.proofs.gate_values.number_at.Goals as goal

pub loop-number-init : goal.loop-number-init
unfolding number_of
loop-number-init c = refl

pub overflow_mul-bits : goal.overflow_mul-bits
overflow_mul-bits c =
    let i = c.loop-number.number-index in
    let numbers = c.args.numbers.now in
    let few : length (bits_at c.args.signals.now (take i numbers)) < 32 = omega (arith, c.requires.few, count_bits c.args.signals.now (take i numbers), length-take i numbers) in
    omega (arith, c.loop-number.invariant, room_for_bit (bits_at c.args.signals.now (take i numbers)) 32 few)

pub overflow_add-bits : goal.overflow_add-bits
overflow_add-bits c =
    let i = c.loop-number.number-index in
    let numbers = c.args.numbers.now in
    let few : length (bits_at c.args.signals.now (take i numbers)) < 32 = omega (arith, c.requires.few, count_bits c.args.signals.now (take i numbers), length-take i numbers) in
    omega (
      arith,
      c.loop-number.invariant,
      c.from.ensures,
      bit_at_most (get_or c.args.signals.now (get_or numbers i 0) false),
      room_for_bit (bits_at c.args.signals.now (take i numbers)) 32 few,
    )

pub loop-number-preserved : goal.loop-number-preserved
loop-number-preserved c =
    let i = c.loop-number.number-index in
    let numbers = c.args.numbers.now in
    let signals = c.args.signals.now in
    let bit = get_or signals (get_or numbers i 0) false in
    ap (λ (n : ℕ). c.loop-number.bits * 2 + n) c.from.ensures
    ∙ (ap (λ (n : ℕ). n * 2 + bool_byte bit) c.loop-number.invariant
    ∙ (sym (number_push (bits_at signals (take i numbers)) bit) ∙ ap number_of (sym (bits_more signals numbers i c.loop-number-test.true))))
