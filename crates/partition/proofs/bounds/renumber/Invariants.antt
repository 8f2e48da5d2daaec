use Rattle.std.proofs.Common.{◌≡◌, ℕ, ◌<◌, ◌≤◌, ◌==◌, if◌then◌else◌, get_or}
use Rattle.partition.proofs.bounds.renumber.Given as goal

abbrev pub invariant-loop-number : goal.invariant-loop-number
invariant-loop-number l = record {
  done : (k : ℕ) → k < l.number-index → get_or l.numbers k 0 ≡ (if get_or l.initial.numbers k 0 == l.from then l.to else get_or l.initial.numbers k 0);
  left : (k : ℕ) → l.number-index ≤ k → get_or l.numbers k 0 ≡ get_or l.initial.numbers k 0;
}
