use Rattle.std.proofs.Common.{◌≡◌, ◌^◌, ◌<◌, arith, subst}
use Rattle.std.proofs.lemmas.Nat.Bits.{bit_at-lt, shr_and_one}
use Rattle.shift_real.specs.Inner.Contents.{turned_bits}
use Rattle.shift_real.proofs.ContentLists.{turned_fits, turned_more, turned_small}
use Rattle.shift_real.proofs.contents.turned.Goals as goal

pub overflow_mul-latches : goal.overflow_mul-latches
overflow_mul-latches c =
    let fits : turned_bits c.loop-place.place c.args.x < 2 ^ 32 = turned_fits c.loop-place.place c.args.x (omega arith) in
    omega (arith, fits)

pub overflow_add-latches : goal.overflow_add-latches
overflow_add-latches c =
    let fits : turned_bits c.loop-place.place c.args.x < 2 ^ 32 = turned_fits c.loop-place.place c.args.x (omega arith) in
    omega (arith, fits, c.from.ensures, shr_and_one c.args.x c.loop-place.place, bit_at-lt c.args.x c.loop-place.place)

pub loop-place-preserved : goal.loop-place-preserved
loop-place-preserved c =
    omega (arith, c.loop-place.invariant, c.from.ensures, shr_and_one c.args.x c.loop-place.place, turned_more c.loop-place.place c.args.x)

pub returns-clause-small : goal.returns-clause-small
returns-clause-small c =
    let same : c.loop-place.place ≡ c.args.inputs = omega arith in
    subst (λ n. c.loop-place.latches < 2 ^ n) same (omega (arith, turned_small c.loop-place.place c.args.x))
