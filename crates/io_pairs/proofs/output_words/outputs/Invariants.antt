use Rattle.std.proofs.Common.{◌≡◌, ◌≤◌, length}
use Rattle.io_pairs.proofs.Gathering.{outputs_below}
use Rattle.io_pairs.proofs.output_words.outputs.Given as goal

abbrev pub invariant-loop-s : goal.invariant-loop-s
invariant-loop-s l = record {
  so_far : l.outs.items ≡ outputs_below l.m l.s;
  few : length l.outs.items ≤ 256;
}
