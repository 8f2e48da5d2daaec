use Rattle.std.proofs.Common.{◌≡◌, ℕ, ◌+◌, ◌<◌, ◌≤◌, ◌⊎◌, get_or}
use Rattle.std.specs.Int.RustNames.{bit_or}
use Rattle.partition.proofs.bits.joined_rows.put_row.Given as goal

abbrev pub invariant-loop-k : goal.invariant-loop-k
invariant-loop-k l = record {
  within : (k : ℕ) → k < l.k → get_or l.words (l.at + k) 0 ≡ bit_or (get_or l.initial.words (l.at + k) 0) (get_or l.row k 0);
  others : (k : ℕ) → (k < l.at) ⊎ (l.at + l.k ≤ k) → get_or l.words k 0 ≡ get_or l.initial.words k 0;
}
