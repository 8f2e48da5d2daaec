use Rattle.symbol_runs.proofs.Runs.{start_judged}
use Rattle.symbol_runs.proofs.networks.judge_start.Goals as goal

pub returns : goal.returns
returns c =
    let ran = c.in_ok-ran.ensures.1 in (start_judged c.args.net.now c.args.start.now _ _ ran, (ran.state, ran.begins))
