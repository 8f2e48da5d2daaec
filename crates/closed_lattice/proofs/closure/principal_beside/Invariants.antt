use Rattle.partition.specs.Partition.{blocks_of}
use Rattle.closed_lattice.proofs.Growing.{IsGrowing}
use Rattle.closed_lattice.proofs.closure.principal_beside.Given as goal

abbrev pub invariant-loop-u : goal.invariant-loop-u
invariant-loop-u l = IsGrowing l.m l.s l.t l.p l.waiting.items

abbrev pub decreases-loop-u : goal.decreases-loop-u
decreases-loop-u l = blocks_of l.p
