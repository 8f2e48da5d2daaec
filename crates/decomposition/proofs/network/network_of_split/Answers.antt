use Rattle.decomposition.proofs.Networks.{are_enough, asked_of, network_is, owners_counted, sets_short, sets_within, states_counted, words_counted}
use Rattle.decomposition.proofs.network.network_of_split.Goals as goal

pub network-requires-clause-words : goal.network-requires-clause-words
network-requires-clause-words c =
    words_counted c.args.machine.now (c.args.split.now).parts c.args.codes.now c.args.names.now (asked_of c.args.machine.now (c.args.split.now).parts c.args.codes.now c.args.names.now c.keeps_its_states.ensures.next c.keeps_its_states.ensures.table c.requires.parts c.requires.flows c.requires.code c.requires.distinct c.requires.short
    c.requires.counted c.requires.apart c.rule_is_irredundant.ensures.latches c.rule_is_irredundant.ensures.outputs)

pub network-requires-clause-reads : goal.network-requires-clause-reads
network-requires-clause-reads c =
    are_enough c.args.machine.now (c.args.split.now).parts c.args.codes.now c.args.names.now (asked_of c.args.machine.now (c.args.split.now).parts c.args.codes.now c.args.names.now c.keeps_its_states.ensures.next c.keeps_its_states.ensures.table c.requires.parts c.requires.flows c.requires.code c.requires.distinct c.requires.short
    c.requires.counted c.requires.apart c.rule_is_irredundant.ensures.latches c.rule_is_irredundant.ensures.outputs) c.in_ok-sets.sets c.in_ok-sets.ensures

pub notes_of-requires-clause-count : goal.notes_of-requires-clause-count
notes_of-requires-clause-count c =
    states_counted c.args.machine.now (c.args.split.now).parts c.args.codes.now c.args.names.now (asked_of c.args.machine.now (c.args.split.now).parts c.args.codes.now c.args.names.now c.keeps_its_states.ensures.next c.keeps_its_states.ensures.table c.requires.parts c.requires.flows c.requires.code c.requires.distinct c.requires.short
    c.requires.counted c.requires.apart c.rule_is_irredundant.ensures.latches c.rule_is_irredundant.ensures.outputs)

pub notes_of-requires-clause-owners : goal.notes_of-requires-clause-owners
notes_of-requires-clause-owners c =
    owners_counted c.args.machine.now (c.args.split.now).parts c.args.codes.now c.args.names.now (asked_of c.args.machine.now (c.args.split.now).parts c.args.codes.now c.args.names.now c.keeps_its_states.ensures.next c.keeps_its_states.ensures.table c.requires.parts c.requires.flows c.requires.code c.requires.distinct c.requires.short
    c.requires.counted c.requires.apart c.rule_is_irredundant.ensures.latches c.rule_is_irredundant.ensures.outputs) c.in_ok-sets.sets c.in_ok-sets.ensures c.as_slice.result.now c.as_slice.ensures

pub notes_of-requires-clause-short : goal.notes_of-requires-clause-short
notes_of-requires-clause-short c =
    sets_short c.args.machine.now (c.args.split.now).parts c.args.codes.now c.args.names.now (asked_of c.args.machine.now (c.args.split.now).parts c.args.codes.now c.args.names.now c.keeps_its_states.ensures.next c.keeps_its_states.ensures.table c.requires.parts c.requires.flows c.requires.code c.requires.distinct c.requires.short
    c.requires.counted c.requires.apart c.rule_is_irredundant.ensures.latches c.rule_is_irredundant.ensures.outputs) c.in_ok-sets.sets c.in_ok-sets.ensures c.as_slice.result.now c.as_slice.ensures

pub notes_of-requires-clause-within : goal.notes_of-requires-clause-within
notes_of-requires-clause-within c =
    sets_within c.args.machine.now (c.args.split.now).parts c.args.codes.now c.args.names.now (asked_of c.args.machine.now (c.args.split.now).parts c.args.codes.now c.args.names.now c.keeps_its_states.ensures.next c.keeps_its_states.ensures.table c.requires.parts c.requires.flows c.requires.code c.requires.distinct c.requires.short
    c.requires.counted c.requires.apart c.rule_is_irredundant.ensures.latches c.rule_is_irredundant.ensures.outputs) c.in_ok-sets.sets c.in_ok-sets.ensures c.as_slice.result.now c.as_slice.ensures

pub returns : goal.returns
returns c =
    network_is c.args.machine.now (c.args.split.now).parts c.args.codes.now c.args.names.now (asked_of c.args.machine.now (c.args.split.now).parts c.args.codes.now c.args.names.now c.keeps_its_states.ensures.next c.keeps_its_states.ensures.table c.requires.parts c.requires.flows c.requires.code c.requires.distinct c.requires.short
    c.requires.counted c.requires.apart c.rule_is_irredundant.ensures.latches c.rule_is_irredundant.ensures.outputs) c.in_ok-sets.sets c.in_ok-sets.ensures c.in_ok-net.net c.in_ok-net.ensures c.in_ok-notes.notes c.as_slice.result.now c.as_slice.ensures c.in_ok-notes.ensures
