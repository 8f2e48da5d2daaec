use Rattle.split_texts.specs.Laws.Kinds.{parts_flow}
use Rattle.split_texts.proofs.Coding.{of_parts}
use Rattle.split_texts.proofs.networks.network_of_codes.Goals as goal

pub headed_network-requires-clause-flows : goal.headed_network-requires-clause-flows
headed_network-requires-clause-flows c =
    parts_flow c.args.split.kind c.requires.planned.0 c.args.work.now.machine c.args.split.parts c.keeps_its_states.ensures.next c.requires.planned.1.lawful c.requires.planned.1.made c.requires.codes.apart

pub returns-clause-made : goal.returns-clause-made
returns-clause-made c = of_parts c.args.work.now c.args.split.kind c.args.split.parts c.headed_network.result c.headed_network.ensures.made
