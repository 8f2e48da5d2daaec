-- None of the contents so far is one of the state.
use Rattle.std.proofs.Common.{◌≡◌, ◌≢◌, ℕ, ◌<◌, Some, slice_get}
use Rattle.shift_real.specs.declared.contents.Content.{Content}
use Rattle.shift_real.proofs.contents.first_reaching.Given as goal

abbrev pub invariant-loop-i : goal.invariant-loop-i
invariant-loop-i l = (j : ℕ) (content : Content) → j < l.i → slice_get l.contents j ≡ Some content → content.state ≢ l.state
