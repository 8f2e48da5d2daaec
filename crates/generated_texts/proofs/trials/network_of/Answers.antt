use Rattle.std.proofs.Common.{refl}
use Rattle.std.proofs.lemmas.Result.{IfOk-weaker}
use Rattle.partition.specs.Laws.Outcomes.{IfOk-from_both}
use Rattle.generated_texts.proofs.Trying.{planned_by_kind, trial_network, trial_ready}
use Rattle.generated_texts.proofs.trials.network_of.Goals as goal

pub network_of_codes-requires-clause-planned : goal.network_of_codes-requires-clause-planned
network_of_codes-requires-clause-planned c = planned_by_kind c.args.work.now.machine c.args.coded.split c.requires.coded.planned

pub returns-clause-ready : goal.returns-clause-ready
returns-clause-ready c =
    let (figures, are, summary) = c.in_ok-summary.ensures in
    IfOk-from_both c.with_summary.result c.with_summary.ensures.comments c.with_summary.ensures.network
    (λ made comments network.
    trial_ready c.args.numbers.seed c.args.numbers.a c.args.numbers.b c.args.numbers.k c.args.work.now.file.now c.args.work.now c.args.coded.split figures c.in_ok-summary.summary.items c.in_ok-made.made made summary comments network c.in_ok-made.ensures.ready)

pub returns-clause-trial : goal.returns-clause-trial
returns-clause-trial c =
    let (figures, are, summary) = c.in_ok-summary.ensures in
    IfOk-from_both c.with_summary.result c.with_summary.ensures.comments c.with_summary.ensures.network
    (λ made comments network.
    trial_network c.args.numbers.seed c.args.numbers.a c.args.numbers.b c.args.numbers.k c.args.work.now.file.now c.args.work.now c.args.coded.split figures c.in_ok-summary.summary.items c.in_ok-made.made made summary comments network c.requires.work c.requires.coded.planned are c.in_ok-made.ensures.made)
