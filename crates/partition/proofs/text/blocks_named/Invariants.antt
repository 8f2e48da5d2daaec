use Rattle.std.proofs.Common.{◌≡◌, ℕ, ◌<◌, take}
use Rattle.partition.specs.Partition.{blocks_of}
use Rattle.partition.specs.Refusal.{IsLawfulLabel}
use Rattle.partition.proofs.text.blocks_named.Given as goal

abbrev pub invariant-loop-place : goal.invariant-loop-place
invariant-loop-place l = record {
  count : l.blocks ≡ blocks_of (take l.place l.labels);
  lawful : (earlier : ℕ) → earlier < l.place → IsLawfulLabel l.labels earlier;
}
