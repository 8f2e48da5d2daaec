use Rattle.std.proofs.Common.{ℕ, ◌<◌, ◌≡◌, ◌↔◌, Contains, slice_index}
use Rattle.state_rows.proofs.columns.states_of.Given as goal

abbrev pub invariant-loop-s : goal.invariant-loop-s
invariant-loop-s l = (i : ℕ) → Contains l.states.items i ↔ ((i < l.s) × (slice_index l.leaders i ≡ l.leader))
