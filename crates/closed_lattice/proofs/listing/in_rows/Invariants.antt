use Rattle.std.proofs.Common.{◌≡◌, take}
use Rattle.closed_lattice.proofs.listing.in_rows.Given as goal

abbrev pub invariant-loop-p : goal.invariant-loop-p
invariant-loop-p l = l.rows.items ≡ take l.p-index l.list
