use Rattle.std.proofs.Common.{ap}
use Rattle.partition.specs.Sides.{Sides}
use Rattle.mm_lattice.specs.Sides.{sides_of}
use Rattle.mm_lattice.specs.Laws.{same_right}
use Rattle.mm_lattice.proofs.worlds.MmWorldJoinWorld.same.Goals as goal

pub returns : goal.returns
returns c = (
  (λ equal. same_right c.args.self.now.machine.now (sides_of c.args.a.now) (sides_of c.args.b.now) c.requires.left.high c.requires.right.high (c.equal.ensures.0 equal)),
  (λ same. c.equal.ensures.1 (ap (λ (x : Sides). x.1) same)),
)
