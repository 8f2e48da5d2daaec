use Rattle.std.proofs.Common.{arith}
use Rattle.std.proofs.lemmas.Result.{err_from_is_err_and}
use Rattle.shift_real.proofs.ShiftNetworks.{answers_at, register_at, sound_at, steps_at, names_for}
use Rattle.shift_real.proofs.registers.register.Goals as goal

pub returns-clause-network : goal.returns-clause-network
returns-clause-network c = register_at c.args.m.now c.in_ok-held.held.order c.in_ok-word.word c.args.names.now _ (c.args.order, c.requires.order, c.requires.names) c.in_ok-held.ensures.order c.in_ok-network.ensures c.in_ok-word.ensures.start

pub returns-clause-sound : goal.returns-clause-sound
returns-clause-sound c = sound_at c.args.m.now c.in_ok-held.held.order c.in_ok-word.word c.args.names.now _ (c.args.order, c.requires.order, c.requires.names) c.in_ok-held.ensures.order c.in_ok-network.ensures

pub returns-clause-steps : goal.returns-clause-steps
returns-clause-steps c = steps_at c.args.m.now c.in_ok-held.held.order c.in_ok-word.word c.args.names.now _ (c.args.order, c.requires.order, c.requires.names) c.in_ok-held.ensures.order c.in_ok-network.ensures

pub returns-clause-answers : goal.returns-clause-answers
returns-clause-answers c =
    answers_at c.args.m.now c.in_ok-held.held.order c.in_ok-word.word c.args.names.now _ (c.args.order, c.requires.order, c.requires.names) c.in_ok-held.ensures.order c.in_ok-network.ensures c.in_ok-word.ensures.start c.keeps_its_states.ensures.next c.keeps_its_states.ensures.table.reset

pub network-requires-clause-held : goal.network-requires-clause-held
network-requires-clause-held c = c.in_ok-held.ensures

pub network-requires-clause-names : goal.network-requires-clause-names
network-requires-clause-names c = names_for c.args.m.now c.args.names.now c.in_ok-held.held.order (c.args.order, c.requires.order, c.requires.names) c.in_ok-held.ensures.order

pub returns-in_err-held-clause-refused : goal.returns-in_err-held-clause-refused
returns-in_err-held-clause-refused c = let p = err_from_is_err_and c.from_residual.result c.from_residual.ensures.1 in rw (p.1, p.2) tt

pub returns-in_err-word-clause-refused : goal.returns-in_err-word-clause-refused
returns-in_err-word-clause-refused c = let p = err_from_is_err_and c.from_residual-in_err-word.result c.from_residual-in_err-word.ensures.1 in rw (p.1, p.2) c.in_err-word.ensures.refused

pub returns-in_err-network-clause-refused : goal.returns-in_err-network-clause-refused
returns-in_err-network-clause-refused c = let p = err_from_is_err_and c.from_residual-in_err-network.result c.from_residual-in_err-network.ensures.1 in rw (p.1, p.2) tt
