use Rattle.std.proofs.Common.{ℕ, ◌<◌, ◌/◌, ◌^◌, bit_and, get_or, length, arith}
use Rattle.part_machines.proofs.Spelling.{IsSpelled, double_fits, spelled_all, spelled_more, spelled_none, spelled_words, taken_bit, taken_low}
use Rattle.part_machines.proofs.cells.value_on.Goals as goal

pub overflow_mul-value : goal.overflow_mul-value
overflow_mul-value c =
    let low : c.loop-c.c-index < 32 = omega (arith, c.requires.few, c.loop-c-test.true) in
    omega (arith, double_fits c.loop-c.value c.loop-c.c-index 0 c.loop-c.invariant.below low (omega arith))

pub overflow_add-value : goal.overflow_add-value
overflow_add-value c =
    let low : c.loop-c.c-index < 32 = omega (arith, c.requires.few, c.loop-c-test.true) in
    let place : ℕ = get_or c.args.bits.now c.loop-c.c-index 0 in
    omega (arith, double_fits c.loop-c.value c.loop-c.c-index (bit_and (c.args.word / 2 ^ place) 1) c.loop-c.invariant.below low (taken_low c.args.word place))

pub loop-c-init : goal.loop-c-init
loop-c-init c = spelled_none c.args.word c.args.bits.now

pub loop-c-preserved : goal.loop-c-preserved
loop-c-preserved c =
    let place : ℕ = get_or c.args.bits.now c.loop-c.c-index 0 in
    spelled_more c.args.word c.args.bits.now c.loop-c.c-index c.loop-c.value (bit_and (c.args.word / 2 ^ place) 1) c.loop-c-test.true (taken_bit c.args.word place) c.loop-c.invariant

pub returns : goal.returns
returns c =
    let all : IsSpelled c.args.word c.args.bits.now (length c.args.bits.now) c.loop-c.value =
    spelled_all c.args.word c.args.bits.now c.loop-c.c-index c.loop-c.value c.loop-c-test.false c.loop-c.auto.c-index-end c.loop-c.invariant in
    record { below = all.below; spelled = spelled_words c.args.word c.args.bits.now c.loop-c.value all }
