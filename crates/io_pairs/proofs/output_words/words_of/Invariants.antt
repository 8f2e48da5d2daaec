use Rattle.std.proofs.Common.{◌≡◌, map}
use Rattle.std.specs.List.{range_with_len}
use Rattle.io_pairs.specs.Outputs.{output_word}
use Rattle.io_pairs.proofs.output_words.words_of.Given as goal

abbrev pub invariant-loop-x : goal.invariant-loop-x
invariant-loop-x l = l.words.items ≡ map (output_word l.m l.s) (range_with_len 0 l.x)
