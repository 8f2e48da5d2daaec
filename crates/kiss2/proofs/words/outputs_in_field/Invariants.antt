use Rattle.std.proofs.Common.{◌≡◌, ◌^◌, ◌<◌, take}
use Rattle.kiss2.specs.Words.{care_in, value_in}
use Rattle.kiss2.proofs.words.outputs_in_field.Given as goal

abbrev pub invariant-loop-output : goal.invariant-loop-output
invariant-loop-output l =
    (l.care ≡ care_in (take l.output l.field)) × (l.value ≡ value_in (take l.output l.field)) × (l.care < 2 ^ l.output) × (l.value < 2 ^ l.output)
