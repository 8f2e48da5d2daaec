use Rattle.std.proofs.Common.{◌≡◌, ◌≤◌, ℕ, ◌+◌, List, ◌++◌, length}
use Rattle.partition.specs.Partition.{blocks_of}
use Rattle.state_codes.specs.Code.{need, Place, label_places, IsLaidOut}
use Rattle.state_codes.proofs.draft.put_label.Given as goal

abbrev pub invariant-loop-weight : goal.invariant-loop-weight
invariant-loop-weight l = record {
  states : length l.draft.words.items ≡ length l.labels;
  room : l.draft.bits + l.weight ≤ 64;
  written : (n : ℕ) (places : List Place) → IsLaidOut n places l.initial.draft.bits l.initial.draft.words.items l.initial.draft.owner l.initial.draft.carried
      → (front : List Place) × (front ++ label_places l.part l.carried l.labels l.weight ≡ places ++ label_places l.part l.carried l.labels (need (blocks_of l.labels))) × IsLaidOut n front l.draft.bits l.draft.words.items l.draft.owner l.draft.carried;
}
