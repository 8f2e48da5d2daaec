use Rattle.std.proofs.Common.{ℕ, List, bit_or, get_or, take, subst, sym}
use Rattle.std.proofs.lemmas.List.{take_all, take_more}
use Rattle.part_machines.specs.Inner.Turning.{AreTurns}
use Rattle.part_machines.proofs.Turning.{field_among, turns_more}
use Rattle.part_machines.proofs.fields.field_of.Goals as goal

pub loop-other-preserved : goal.loop-other-preserved
loop-other-preserved c =
    let front : List ℕ = take c.loop-other.other-index c.args.shown.now in
    let other : ℕ = get_or c.args.shown.now c.loop-other.other-index 0 in
    subst (λ (numbers : List ℕ). AreTurns numbers c.args.value c.args.width (bit_or c.loop-other.care c.leading_bit-bit.result))
    (sym (take_more c.args.shown.now c.loop-other.other-index 0 c.loop-other-test.true))
    (turns_more front c.args.value c.args.width c.loop-other.care other c.leading_bit-bit.result c.requires.value
    (c.requires.shown c.loop-other.other-index 0 c.loop-other-test.true) c.leading_bit-bit.ensures c.loop-other.invariant)

pub returns : goal.returns
returns c =
    field_among c.args.shown.now c.args.value c.args.width c.loop-other.care
    (subst (λ (numbers : List ℕ). AreTurns numbers c.args.value c.args.width c.loop-other.care)
    (take_all c.loop-other.other-index c.args.shown.now c.loop-other-test.false) c.loop-other.invariant)
    c.requires.shown c.requires.value
