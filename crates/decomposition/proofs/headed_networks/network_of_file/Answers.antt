use Rattle.std.proofs.lemmas.Result.{IfOk-weaker}
use Rattle.decomposition.proofs.Whole.{apart, counted}
use Rattle.decomposition.proofs.headed_networks.network_of_file.Goals as goal

pub network_of_split-requires-clause-counted : goal.network_of_split-requires-clause-counted
network_of_split-requires-clause-counted c =
    counted c.args.work.now.file.now c.args.work.now c.args.codes.now c.requires.lawful c.requires.no_conflict c.requires.code.written.states c.requires.short c.in_ok-signals.signals c.in_ok-signals.ensures c.requires.work.0 c.requires.work.1

pub network_of_split-requires-clause-apart : goal.network_of_split-requires-clause-apart
network_of_split-requires-clause-apart c =
    apart c.args.work.now.file.now c.args.work.now c.args.codes.now c.requires.lawful c.requires.no_conflict c.requires.code.written.states c.requires.short c.in_ok-signals.signals c.in_ok-signals.ensures

pub returns : goal.returns
returns c =
    IfOk-weaker c.network_of_split.result _ _
    (λ made net. record { names = c.in_ok-signals.signals; own = c.in_ok-signals.ensures; net = net })
    c.network_of_split.ensures
