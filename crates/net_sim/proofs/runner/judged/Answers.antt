use Rattle.net_sim.proofs.Progress.{is_run}
use Rattle.std.specs.Option.{option_copied}
use Rattle.net_sim.proofs.runner.judged.Goals as goal

pub returns-clause-ran : goal.returns-clause-ran
returns-clause-ran c =
    is_run (λ text. text.items) c.args.net.now c.args.order.now (option_copied c.args.start) c.in_ok-state.state.items c.args.symbols.now c.requires.sound c.requires.order c.in_ok-state.ensures.ok
    c.answers_from.result c.answers_from.ensures.ok
