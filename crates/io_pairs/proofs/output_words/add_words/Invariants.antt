use Rattle.std.proofs.Common.{◌≡◌, ◌≤◌, length, take}
use Rattle.io_pairs.specs.Inner.Words.{with_words}
use Rattle.io_pairs.proofs.output_words.add_words.Given as goal

abbrev pub invariant-loop-word : goal.invariant-loop-word
invariant-loop-word l = record {
  so_far : l.outs.items ≡ with_words l.initial.outs.items (take l.word-index l.words);
  few : length l.outs.items ≤ 256;
}
