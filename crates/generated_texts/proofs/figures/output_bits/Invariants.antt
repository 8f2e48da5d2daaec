-- The outputs of the numbers so far.
use Rattle.std.proofs.Common.{◌≡◌, take}
use Rattle.std.specs.List.{flat_map}
use Rattle.cubes.specs.Symbol.{lowest_bits}
use Rattle.generated_texts.proofs.figures.output_bits.Given as goal

abbrev pub invariant-loop-word : goal.invariant-loop-word
invariant-loop-word l = l.bits.items ≡ flat_map (lowest_bits 2) (take l.word-index l.words)
