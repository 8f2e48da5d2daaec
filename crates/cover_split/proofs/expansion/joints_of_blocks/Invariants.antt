use Rattle.std.proofs.Common.{ℕ, ◌≡◌, ◌<◌, length}
use Rattle.machine_table.specs.Pairs.{AtEachSymbol}
use Rattle.cover_split.specs.Expansion.{StaysWithin}
use Rattle.cover_split.specs.Inner.Joints.{AreJointsOfEach}
use Rattle.cover_split.proofs.expansion.joints_of_blocks.Given as goal

abbrev pub invariant-loop-j : goal.invariant-loop-j
invariant-loop-j l = record {
  size : length l.lists.items ≡ l.j;
  joints : AreJointsOfEach l.m l.blocks l.lists.items;
  stays : (k : ℕ) → k < l.j → AtEachSymbol l.m.inputs (StaysWithin l.m l.blocks k);
}
