use Rattle.std.proofs.Common.{◌≡◌, ◌+◌, ◌^◌, ◌<◌, take, refl, arith}
use Rattle.kiss2.specs.Words.{care_in, value_in}
use Rattle.kiss2.proofs.Digits.{care_kept, care_set, value_kept, value_set}
use Rattle.kiss2.proofs.words.outputs_in_field.Goals as goal
use Rattle.kiss2.proofs.words.outputs_in_field.Goals.{then-byte-ne45, else-byte-ne45, then-byte-eq49, else-byte-eq49}

pub loop-output-init : goal.loop-output-init
unfolding care_in value_in
loop-output-init c = (refl, refl, omega arith, omega arith)

pub loop-output-preserved : goal.loop-output-preserved
loop-output-preserved c =
    let place = c.loop-output.output in
    let field = c.args.field.now in
    let care : (c.if-byte-ne45.care ≡ care_in (take (place + 1) field)) × (c.if-byte-ne45.care < 2 ^ (place + 1)) =
    elim c.if-byte-ne45.branch [
      | then-byte-ne45 w ↦ care_set field place c.loop-output.care c.if-byte-ne45.care c.loop-output-test.true c.requires c.loop-output.invariant.2 c.loop-output.invariant.0 w.if-byte-ne45.true w.care-is
      | else-byte-ne45 w ↦ care_kept field place c.loop-output.care c.if-byte-ne45.care c.loop-output-test.true c.requires c.loop-output.invariant.2 c.loop-output.invariant.0 w.if-byte-ne45.false w.care-is
    ] in
    let value : (c.if-byte-eq49.value ≡ value_in (take (place + 1) field)) × (c.if-byte-eq49.value < 2 ^ (place + 1)) =
    elim c.if-byte-eq49.branch [
      | then-byte-eq49 w ↦ value_set field place c.loop-output.value c.if-byte-eq49.value c.loop-output-test.true c.requires c.loop-output.invariant.3 c.loop-output.invariant.1 w.if-byte-eq49.true w.value-is
      | else-byte-eq49 w ↦ value_kept field place c.loop-output.value c.if-byte-eq49.value c.loop-output-test.true c.requires c.loop-output.invariant.3 c.loop-output.invariant.1 w.if-byte-eq49.false w.value-is
    ] in
    (care.0, value.0, care.1, value.1)
