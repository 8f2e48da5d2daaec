use Rattle.std.proofs.Common.{◌≡◌, ℕ, ◌<◌, length, get_or}
use Rattle.partition.proofs.bounds.values_at.Given as goal

abbrev pub invariant-loop-place : goal.invariant-loop-place
invariant-loop-place l = record {
  size : length l.found.items ≡ l.place-index;
  taken : (s : ℕ) → s < l.place-index → get_or l.found.items s 0 ≡ get_or l.values (get_or l.places s 0) 0;
}
