use Rattle.std.proofs.Common.{refl}
use Rattle.std.proofs.lemmas.Result.{IfOk-weaker}
use Rattle.decomposition.proofs.Whole.{classes_inside, decomposed, ready}
use Rattle.decomposition.proofs.headed_networks.headed_network.Goals as goal

pub headed-requires-clause-few : goal.headed-requires-clause-few
headed-requires-clause-few c = c.requires.lawful.state_count

pub headed-requires-clause-classes : goal.headed-requires-clause-classes
headed-requires-clause-classes c =
    classes_inside c.args.work.now.file.now c.args.work.now c.args.codes.now c.requires.lawful c.requires.no_conflict c.requires.code.written.states c.requires.short c.requires.work.0 c.requires.work.1

pub returns-clause-ready : goal.returns-clause-ready
returns-clause-ready c =
    IfOk-weaker c.headed.result _ _
    (λ made told.
    let named = c.in_ok-made.ensures in
    ready c.args.work.now.file.now c.args.work.now c.args.codes.now c.requires.lawful c.requires.no_conflict c.requires.code.written.states c.requires.short named.names named.own
    c.args.split c.in_ok-made.made.network c.in_ok-made.made.notes named.net c.requires.work.0 c.requires.work.1 made.header told.of_split made refl told.network)
    c.headed.ensures

pub returns-clause-made : goal.returns-clause-made
returns-clause-made c = λ reduce is.
    IfOk-weaker c.headed.result _ _
    (λ made told.
    let named = c.in_ok-made.ensures in
    decomposed c.args.work.now.file.now c.args.work.now c.args.codes.now c.requires.lawful c.requires.no_conflict c.requires.code.written.states c.requires.short named.names named.own
    c.args.split c.in_ok-made.made.network c.in_ok-made.made.notes named.net reduce is made.header told.of_split c.requires.code c.requires.parts c.requires.count made refl told.network)
    c.headed.ensures
