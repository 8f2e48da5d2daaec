use Rattle.std.proofs.Common.{◌≡◌, ◌<◌, length, subst, arith}
use Rattle.std.proofs.lemmas.Result.{IfOk-from_err}
use Rattle.hs_lattice.specs.Collection.{items_in}
use Rattle.hs_lattice.proofs.Passes.{IsPassing, passing_none, passing_more, passed_all}
use Rattle.hs_lattice.proofs.closure.add_joins.Goals as goal

pub returns-then-len-limit-clause-extends : goal.returns-then-len-limit-clause-extends
returns-then-len-limit-clause-extends g c =
    let w = g.W.JoinWorld in
    let inside : c.loop-place.place < length (items_in c.args.known.now) = omega arith in
    (passing_more w.meaning (w.joins c.args.world.now) (items_in c.args.known.now) (w.meaning c.args.generator.now) (items_in c.loop-place.known) c.loop-place.place c.args.generator.now
    (items_in c.add_join.new.known) c.loop-place.invariant.passing inside c.in_ok-add_join.ensures.adds).extends

pub loop-place-preserved : goal.loop-place-preserved
loop-place-preserved g c =
    let w = g.W.JoinWorld in
    let inside : c.loop-place.place < length (items_in c.args.known.now) = omega arith in
    record {
      known = c.in_ok-add_join.ensures.known;
      passing = passing_more w.meaning (w.joins c.args.world.now) (items_in c.args.known.now) (w.meaning c.args.generator.now) (items_in c.loop-place.known) c.loop-place.place c.args.generator.now
          (items_in c.add_join.new.known) c.loop-place.invariant.passing inside c.in_ok-add_join.ensures.adds;
      small = omega arith;
    }

pub returns-clause-all : goal.returns-clause-all
returns-clause-all g c =
    let w = g.W.JoinWorld in
    let known = items_in c.args.known.now in
    let now = items_in c.loop-place.known in
    let joins = w.joins c.args.world.now in
    let value = w.meaning c.args.generator.now in
    let end : c.loop-place.place ≡ length known = omega arith in
    λ small. passed_all w.meaning joins known value now (subst (IsPassing w.meaning joins known value now) end c.loop-place.invariant.passing)

pub loop-place-init : goal.loop-place-init
loop-place-init g c =
    let w = g.W.JoinWorld in
    record {
      known = c.requires.known;
      passing = passing_none w.meaning (w.joins c.args.world.now) (items_in c.args.known.now) (w.meaning c.args.generator.now);
      small = c.requires.small;
    }

pub add_join-requires-clause-place : goal.add_join-requires-clause-place
add_join-requires-clause-place g c = omega (arith, c.loop-place.invariant.passing.no_fewer)

pub returns-in_err-add_join-clause-known : goal.returns-in_err-add_join-clause-known
returns-in_err-add_join-clause-known g c = IfOk-from_err c.from_residual.result _ c.from_residual.ensures.0

pub returns-in_err-add_join-clause-extends : goal.returns-in_err-add_join-clause-extends
returns-in_err-add_join-clause-extends g c = IfOk-from_err c.from_residual.result _ c.from_residual.ensures.0

pub returns-in_err-add_join-clause-all : goal.returns-in_err-add_join-clause-all
returns-in_err-add_join-clause-all g c = IfOk-from_err c.from_residual.result _ c.from_residual.ensures.0

pub returns-in_err-add_join-clause-few : goal.returns-in_err-add_join-clause-few
returns-in_err-add_join-clause-few g c = IfOk-from_err c.from_residual.result _ c.from_residual.ensures.0

pub returns-then-len-limit-clause-all : goal.returns-then-len-limit-clause-all
returns-then-len-limit-clause-all g c = λ small. absurd (omega arith)

pub returns-then-len-limit-clause-few : goal.returns-then-len-limit-clause-few
returns-then-len-limit-clause-few g c = omega (arith, c.loop-place.invariant.small, c.in_ok-add_join.ensures.adds.2.at_most_one)

pub returns-clause-extends : goal.returns-clause-extends
returns-clause-extends g c = c.loop-place.invariant.passing.extends
