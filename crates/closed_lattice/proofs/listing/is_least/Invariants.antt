use Rattle.std.proofs.Common.{ℕ, ◌<◌, List, get_or}
use Rattle.partition.specs.Partition.{Le}
use Rattle.closed_lattice.proofs.listing.is_least.Given as goal

abbrev pub invariant-loop-q : goal.invariant-loop-q
invariant-loop-q l = (k : ℕ) (d : List ℕ) → k < l.q-index → Le (get_or l.found k d) l.p → Le l.p (get_or l.found k d)
