use Rattle.std.proofs.Common.{ap, length}
use Rattle.io_pairs.specs.Outputs.{OutPair, occurring}
use Rattle.io_pairs.specs.Laws.{out_pairs_grow}
use Rattle.partition.specs.Laws.Partners.{same_right_of}
use Rattle.partition.specs.Sides.{Sides}
use Rattle.io_pairs.specs.Sides.{sides_of}
use Rattle.io_pairs.proofs.worlds.OutputWorldJoinWorld.same.Goals as goal

pub returns : goal.returns
returns c =
    let F = c.args.self.now.machine.now in (
      (λ equal. same_right_of (length F.states) (length (occurring F)) (OutPair F) (out_pairs_grow F) (sides_of c.args.a.now) (sides_of c.args.b.now) c.requires.left.high c.requires.right.high (c.equal.ensures.0 equal)),
      (λ same. c.equal.ensures.1 (ap (λ (x : Sides). x.1) same)),
    )
