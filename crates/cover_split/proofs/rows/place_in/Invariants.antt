use Rattle.std.proofs.Common.{ℕ, ◌≢◌, ◌<◌, get_or}
use Rattle.cover_split.proofs.rows.place_in.Given as goal

abbrev pub invariant-loop-place : goal.invariant-loop-place
invariant-loop-place l = (k d : ℕ) → k < l.place → get_or l.states k d ≢ l.s
