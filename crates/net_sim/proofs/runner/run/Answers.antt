use Rattle.std.specs.Option.{option_copied}
use Rattle.net_sim.proofs.Exclusive.{cause_answered, run_answered}
use Rattle.net_sim.proofs.runner.run.Goals as goal

pub returns-clause-never_refused : goal.returns-clause-never_refused
returns-clause-never_refused c =
    run_answered (λ text. text.items) c.args.net.now (option_copied c.args.start) c.args.symbols.now c.judged.result c.judged.ensures.ran c.judged.ensures.cause

pub returns-clause-never_run : goal.returns-clause-never_run
returns-clause-never_run c =
    cause_answered (λ text. text.items) c.args.net.now (option_copied c.args.start) c.args.symbols.now c.judged.result c.judged.ensures.ran c.judged.ensures.cause
