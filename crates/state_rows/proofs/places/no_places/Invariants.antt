use Rattle.std.proofs.Common.{◌≡◌, [], replicate}
use Rattle.state_rows.proofs.places.no_places.Given as goal

abbrev pub invariant-loop-i : goal.invariant-loop-i
invariant-loop-i l = l.places.items ≡ replicate l.i []
