use Rattle.std.proofs.Common.{◌≡◌, ℕ, ◌<◌, ◌≤◌, get_or}
use Rattle.partition.specs.Inner.RemovedLabel.{relabelled}
use Rattle.partition.proofs.blocks.relabel.Given as goal

abbrev pub invariant-loop-label : goal.invariant-loop-label
invariant-loop-label l = record {
  before : (s : ℕ) → s < l.label-index → get_or l.labels s 0 ≡ relabelled l.kept l.gone (get_or l.initial.labels s 0);
  after : (s : ℕ) → l.label-index ≤ s → get_or l.labels s 0 ≡ get_or l.initial.labels s 0;
}
