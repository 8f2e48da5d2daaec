use Rattle.std.proofs.Common.{ap, ◌∙◌, count_by}
use Rattle.std.specs.List.{flat_map}
use Rattle.cubes.specs.Symbol.{lowest_bits}
use Rattle.generated_texts.proofs.Running.{numbers_below, ones_of_words}
use Rattle.generated_texts.proofs.figures.ones_of_run.Goals as goal

pub walk-requires : goal.walk-requires
walk-requires c = numbers_below c.inputs.result c.args.machine.now.inputs c.deref.result.now c.inputs.ensures.count (c.deref.ensures.value ∙ c.in_ok-word.ensures)

pub returns : goal.returns
returns c =
    ones_of_words c.args.machine.now c.inputs.result c.deref.result.now c.in_ok-outputs.outputs.items c.in_ok-bits.bits.items c.ones_among.result c.requires.outputs c.inputs.ensures.count (c.deref.ensures.value ∙ c.in_ok-word.ensures)
    c.in_ok-outputs.ensures.outputs (c.in_ok-bits.ensures ∙ ap (flat_map (lowest_bits 2)) c.deref-2.ensures.value) (c.ones_among.ensures ∙ ap (count_by (λ bit. bit)) c.deref-3.ensures.value)
