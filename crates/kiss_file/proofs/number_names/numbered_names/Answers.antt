use Rattle.std.proofs.Common.{◌≡◌, ◌<◌, ◌^◌, All, length, sym, ap, ◌∙◌, subst, arith}
use Rattle.kiss_file.specs.Names.{AreDistinct, IsPlainName}
use Rattle.kiss_file.specs.Laws.NumberedNames.{length-numbered_names, name_added, numbered_names-distinct, numbered_names-plain}
use Rattle.kiss_file.proofs.number_names.numbered_names.Goals as goal

pub add-requires : goal.add-requires
add-requires c =
    let count : length c.loop-number.names ≡ c.loop-number.number = ap length c.loop-number.invariant ∙ length-numbered_names c.loop-number.number in
    omega (arith, c.loop-number.auto.number-end)

pub loop-number-preserved : goal.loop-number-preserved
loop-number-preserved c =
    let small : c.loop-number.number < 2 ^ 64 = omega arith in
    name_added c.loop-number.number c.loop-number.names c.add.new.self c.as_slice.result.now small c.loop-number.invariant
    (c.as_slice.ensures.value ∙ c.in_ok-name.ensures) c.in_ok-add.ensures.last

pub returns-clause-plain : goal.returns-clause-plain
returns-clause-plain c =
    subst (All IsPlainName) (sym c.loop-number.invariant) (numbered_names-plain c.loop-number.number (omega (arith, c.loop-number.auto.number-end, c.ranges.count.fits)))

pub returns-clause-distinct : goal.returns-clause-distinct
returns-clause-distinct c =
    subst AreDistinct (sym c.loop-number.invariant) (numbered_names-distinct c.loop-number.number (omega (arith, c.loop-number.auto.number-end, c.ranges.count.fits)))
