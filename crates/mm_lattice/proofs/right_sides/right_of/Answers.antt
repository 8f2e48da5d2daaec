use Rattle.std.proofs.Common.{ℕ, subst, arith}
use Rattle.partition.specs.Partition.{IsPartition}
use Rattle.mm_lattice.proofs.Holds.{right_held}
use Rattle.mm_lattice.proofs.right_sides.right_of.Goals as goal

pub merge_images-requires-clause-lawful : goal.merge_images-requires-clause-lawful
merge_images-requires-clause-lawful c = subst (λ (n : ℕ). IsPartition n c.in_ok-right.right) c.states.ensures.count c.in_ok-right.ensures.lawful

pub returns : goal.returns
returns c =
    right_held c.args.m.now c.args.s c.args.t c.in_ok-right.right c.merge_images.new.part c.states.ensures.inside (omega arith, omega arith) c.requires.s c.requires.t
    (rw c.states.ensures.count at c.in_ok-right.ensures.labels) c.in_ok-merge_images.ensures
