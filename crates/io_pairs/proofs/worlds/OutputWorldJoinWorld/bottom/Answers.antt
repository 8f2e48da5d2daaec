use Rattle.std.proofs.Common.{◌<◌, length, ap, arith}
use Rattle.io_pairs.specs.Outputs.{occurring}
use Rattle.io_pairs.proofs.Gathering.{some_occur}
use Rattle.io_pairs.proofs.worlds.OutputWorldJoinWorld.bottom.Goals as goal

pub zero-requires : goal.zero-requires
zero-requires c =
    let F = c.args.self.now.machine.now in
    let some : 0 < length (occurring F) = some_occur F (omega (arith, c.keeps_its_states.ensures.table.reset)) in
    (omega (arith, ap length c.as_slice.ensures, ap length c.requires.1.same), omega (arith, ap length c.as_slice.ensures, c.requires.1.few))
