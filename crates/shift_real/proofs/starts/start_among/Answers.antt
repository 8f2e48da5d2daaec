use Rattle.shift_real.specs.Laws.StartContent.{none_found, start_found}
use Rattle.shift_real.proofs.starts.start_among.Goals as goal

pub returns-in-Some-clause-start : goal.returns-in-Some-clause-start
returns-in-Some-clause-start c =
    start_found c.args.m.now c.args.held.now.order c.args.held.now.contents.items c.requires.contents c.in-Some.first c.reset.result c.deref.result.now c.index.result.now c.requires.order c.reset.ensures.number c.deref.ensures.value
    c.in-Some.ensures.within c.index.ensures c.in-Some.ensures.some c.in-Some.ensures.first

pub returns-in-None-clause-refused : goal.returns-in-None-clause-refused
returns-in-None-clause-refused c =
    none_found c.args.m.now c.args.held.now.order c.args.held.now.contents.items c.requires.contents c.reset.result c.deref.result.now c.requires.order c.reset.ensures.number c.deref.ensures.value c.in-None.ensures.none
