use Rattle.cover_texts.proofs.Judging.{missing_here, read_from, stop_here}
use Rattle.cover_texts.proofs.flaws.read.Goals as goal

pub refusal_of-requires : goal.refusal_of-requires
refusal_of-requires c state is =
    missing_here c.args.file.now c.args.machine.now c.states.result c.requires c.states.ensures.count c.args.text.now c.in-Err.fail state (c.parse.ensures.refused c.in-Err.fail c.in-Err.is) is

pub returns-in_ok-refusal_of-in-Err : goal.returns-in_ok-refusal_of-in-Err
returns-in_ok-refusal_of-in-Err c =
    stop_here c.args.file.now c.args.machine.now c.states.result c.requires c.states.ensures.count c.args.text.now c.in-Err.fail c.in_ok-refusal_of-in-Err.field-0 c.in_ok-refusal_of-in-Err.ensures (c.parse.ensures.refused c.in-Err.fail c.in-Err.is)

pub returns-in-Ok : goal.returns-in-Ok
returns-in-Ok c =
    read_from c.args.file.now c.args.machine.now c.states.result c.requires c.states.ensures.count c.args.text.now c.parse.result c.in-Ok.cover c.in-Ok.is c.in-Ok.ensures.text c.in-Ok.ensures.cover c.parse.ensures.accepted c.parse.ensures.caused
