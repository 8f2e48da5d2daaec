use Rattle.split_texts.proofs.Planning.{assigned_here, read_few}
use Rattle.split_texts.proofs.plans.assigned.Goals as goal

pub given-requires : goal.given-requires
given-requires c = read_few c.states.result c.args.text.now c.in_ok-parts.parts c.requires c.in_ok-parts.ensures.1

pub returns : goal.returns
returns c =
    assigned_here c.states.result c.args.text.now c.args.machine.now c.in_ok-parts.parts c.in_ok-given.field-0 c.states.ensures.count c.in_ok-parts.ensures c.in_ok-given.ensures.kind c.in_ok-given.ensures.parts c.in_ok-given.ensures.few c.in_ok-given.ensures.lawful
