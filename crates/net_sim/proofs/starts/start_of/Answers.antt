use Rattle.std.proofs.Common.{length, ap}
use Rattle.std.specs.Option.{option_copied}
use Rattle.net_sim.specs.Inner.Failures.{TellsStart, TellsText}
use Rattle.net_sim.proofs.Beginning.{text_told, told_as}
use Rattle.net_sim.proofs.starts.start_of.Goals as goal

pub returns-in-Some-clause-err : goal.returns-in-Some-clause-err
returns-in-Some-clause-err c =
    let N = c.args.net.now in
    let start = option_copied c.args.start in
    told_as c.given_start.result (TellsText (length c.as_slice.result.now) c.in-Some.text.now) (TellsStart N start)
    (text_told N start c.in-Some.text.now (length c.as_slice.result.now) (ap option_copied c.in-Some.is) (ap length c.as_slice.ensures)) c.given_start.ensures.err
