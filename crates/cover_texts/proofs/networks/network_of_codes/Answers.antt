use Rattle.std.proofs.lemmas.Result.{IfOk-weaker}
use Rattle.cover_texts.proofs.Flowing.{parts_flow, parts_lawful}
use Rattle.cover_texts.proofs.Whole.{apart, code_here, counted, distinct_here, ready, whole, words_counted}
use Rattle.cover_texts.proofs.networks.network_of_codes.Goals as goal

pub network_of_split-requires-clause-parts : goal.network_of_split-requires-clause-parts
network_of_split-requires-clause-parts c = parts_lawful c.args.file.now c.args.pairs.now c.args.cover.now.blocks c.args.split.now.parts c.requires.expanded.expansion c.requires.parts

pub network_of_split-requires-clause-flows : goal.network_of_split-requires-clause-flows
network_of_split-requires-clause-flows c = parts_flow c.args.file.now c.args.pairs.now c.args.cover.now.blocks c.args.split.now.parts c.requires.expanded.expansion c.requires.parts c.keeps_its_states.ensures.next

pub network_of_split-requires-clause-code : goal.network_of_split-requires-clause-code
network_of_split-requires-clause-code c =
    code_here c.args.file.now c.args.pairs.now c.args.cover.now.blocks c.args.split.now.parts c.args.codes.now c.requires.lawful c.requires.cover c.requires.expanded c.requires.parts c.requires.codes

pub network_of_split-requires-clause-distinct : goal.network_of_split-requires-clause-distinct
network_of_split-requires-clause-distinct c =
    distinct_here c.args.file.now c.args.pairs.now c.args.cover.now.blocks c.args.split.now.parts c.args.codes.now c.requires.lawful c.requires.cover c.requires.expanded c.requires.parts c.requires.codes

pub network_of_split-requires-clause-counted : goal.network_of_split-requires-clause-counted
network_of_split-requires-clause-counted c =
    counted c.args.file.now c.args.pairs.now c.args.cover.now.blocks c.args.split.now.parts c.args.codes.now c.requires.lawful c.requires.cover c.requires.expanded c.requires.parts c.requires.codes c.in_ok-signals.signals c.in_ok-signals.ensures

pub network_of_split-requires-clause-apart : goal.network_of_split-requires-clause-apart
network_of_split-requires-clause-apart c =
    apart c.args.file.now c.args.pairs.now c.args.cover.now.blocks c.args.split.now.parts c.args.codes.now c.requires.lawful c.requires.cover c.requires.expanded c.requires.parts c.requires.codes c.in_ok-signals.signals c.in_ok-signals.ensures

pub commented-requires-clause-words : goal.commented-requires-clause-words
commented-requires-clause-words c = words_counted c.args.file.now c.args.pairs.now c.args.cover.now.blocks c.args.split.now.parts c.args.codes.now c.requires.lawful c.requires.cover c.requires.expanded c.requires.parts c.requires.codes

pub commented-requires-clause-bits : goal.commented-requires-clause-bits
commented-requires-clause-bits c = c.requires.codes.short

pub returns-clause-ready : goal.returns-clause-ready
returns-clause-ready c =
    IfOk-weaker c.commented.result _ _
    (λ made told.
    ready c.args.file.now c.args.pairs.now c.args.cover.now.blocks c.args.split.now.parts c.args.codes.now c.requires.lawful c.requires.cover c.requires.expanded c.requires.parts c.requires.codes c.in_ok-signals.signals c.in_ok-signals.ensures
    c.in_ok-made.made.network c.in_ok-made.made.notes c.in_ok-made.ensures c.keeps_its_states.ensures.next c.keeps_its_states.ensures.table made told.comments told.network)
    c.commented.ensures

pub returns-clause-whole : goal.returns-clause-whole
returns-clause-whole c =
    IfOk-weaker c.commented.result _ _
    (λ made told.
    whole c.args.file.now c.args.pairs.now c.args.cover.now.blocks c.args.split.now.parts c.args.codes.now c.requires.lawful c.requires.cover c.requires.expanded c.requires.parts c.requires.codes c.in_ok-signals.signals c.in_ok-signals.ensures
    c.in_ok-made.made.network c.in_ok-made.made.notes c.in_ok-made.ensures c.keeps_its_states.ensures.next c.keeps_its_states.ensures.table made told.comments told.network)
    c.commented.ensures
