use Rattle.std.proofs.Common.{sym, ◌∙◌, subst, arith}
use Rattle.std.proofs.lemmas.Bool.{false≢true}
use Rattle.std.proofs.lemmas.Result.{err_from_is_err_and, on_ok_weaker}
use Rattle.closed_lattice.proofs.Passing.{pair_held, pair_refused}
use Rattle.closed_lattice.proofs.growth.grow_by.Goals as goal

pub returns-then-same-clause-takes : goal.returns-then-same-clause-takes
returns-then-same-clause-takes g c =
    pair_held c.args.m.now (g.C.Condition.meets c.args.condition.now) c.requires.stays c.args.grown.now c.args.s c.args.t c.requires.s c.requires.t c.requires.settled (c.same.ensures.0 c.if-same.true)

pub returns-then-bars-clause-takes : goal.returns-then-bars-clause-takes
returns-then-bars-clause-takes g c =
    pair_refused c.args.m.now (g.C.Condition.meets c.args.condition.now) c.requires.stays c.args.grown.now c.args.s c.args.t c.requires.s c.requires.t c.requires.settled (c.bars.ensures c.if-bars.true)

pub joined_by-requires-clause-states : goal.joined_by-requires-clause-states
joined_by-requires-clause-states g c = c.requires.settled.0.0.length

pub take_if_met-requires : goal.take_if_met-requires
take_if_met-requires g c =
    let lawful = c.in_ok-join.ensures.joined.2.lawful in
    subst (g.C.Condition.suits c.args.condition.now) (sym (lawful.length ∙ c.requires.settled.0.0.length)) c.requires.suits

pub returns-clause-takes : goal.returns-clause-takes
returns-clause-takes g c =
    let joined = c.in_ok-join.ensures.joined in
    on_ok_weaker c.take_if_met.result (λ taken. record {
      generator = joined.0;
      generates = joined.1;
      joined = c.in_ok-join.join;
      joins = joined.2;
      taken = taken;
    }) c.take_if_met.ensures

pub same-requires-clause-s : goal.same-requires-clause-s
same-requires-clause-s g c = omega (arith, c.requires.s, c.requires.settled.0.0.length)

pub same-requires-clause-t : goal.same-requires-clause-t
same-requires-clause-t g c = omega (arith, c.requires.t, c.requires.settled.0.0.length)

pub returns-then-same-clause-known : goal.returns-then-same-clause-known
returns-then-same-clause-known g c = c.requires.known

pub bars-requires-clause-suits : goal.bars-requires-clause-suits
bars-requires-clause-suits g c = subst (g.C.Condition.suits c.args.condition.now) (sym c.requires.settled.0.0.length) c.requires.suits

pub bars-requires-clause-s : goal.bars-requires-clause-s
bars-requires-clause-s g c = omega (arith, c.requires.s, c.requires.settled.0.0.length)

pub bars-requires-clause-t : goal.bars-requires-clause-t
bars-requires-clause-t g c = omega (arith, c.requires.t, c.requires.settled.0.0.length)

pub bars-requires-clause-apart : goal.bars-requires-clause-apart
bars-requires-clause-apart g c = λ held. false≢true (sym c.if-same.false ∙ c.same.ensures.1 held)

pub returns-then-bars-clause-known : goal.returns-then-bars-clause-known
returns-then-bars-clause-known g c = c.requires.known

pub joined_by-requires-clause-known : goal.joined_by-requires-clause-known
joined_by-requires-clause-known g c = c.requires.known

pub returns-in_err-join-clause-known : goal.returns-in_err-join-clause-known
returns-in_err-join-clause-known g c = let p = err_from_is_err_and c.from_residual.result c.from_residual.ensures.1 in rw p.1 tt

pub returns-in_err-join-clause-takes : goal.returns-in_err-join-clause-takes
returns-in_err-join-clause-takes g c = let p = err_from_is_err_and c.from_residual.result c.from_residual.ensures.1 in rw p.1 tt

pub returns-clause-known : goal.returns-clause-known
returns-clause-known g c = on_ok_weaker c.take_if_met.result (λ _. c.in_ok-join.ensures.known) c.take_if_met.ensures
