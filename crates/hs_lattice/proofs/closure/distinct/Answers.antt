use Rattle.std.proofs.Common.{◌≡◌, length, subst, arith}
use Rattle.std.proofs.lemmas.Result.{IfOk-from_err}
use Rattle.hs_lattice.specs.Collection.{items_in}
use Rattle.hs_lattice.proofs.Distinct.{KeepsFirst, from_more, keeps_more, keeps_all}
use Rattle.hs_lattice.proofs.Values.{read_fits}
use Rattle.hs_lattice.proofs.closure.distinct.Goals as goal

pub returns-then-len-limit-clause-picked : goal.returns-then-len-limit-clause-picked
returns-then-len-limit-clause-picked g c =
    record {
      ascending = c.in_ok-ascending.ensures.ascending;
      from = λ z h.
          from_more g.W.JoinWorld.meaning c.args.generators.now (items_in c.loop-generator.kept) (items_in c.keep.new.kept) c.loop-generator.generator-index c.generator-item.result
          c.loop-generator.invariant.from c.in_ok-keep.ensures.adds c.loop-generator-test.true c.generator-item.is z ((c.in_ok-ascending.ensures.values z).0 h);
    }

pub loop-generator-preserved : goal.loop-generator-preserved
loop-generator-preserved g c =
    let meaning = g.W.JoinWorld.meaning in
    let inv = c.loop-generator.invariant in
    let kept = items_in c.loop-generator.kept in
    let now = items_in c.keep.new.kept in
    record {
      kept = c.in_ok-keep.ensures.kept;
      from = from_more meaning c.args.generators.now kept now c.loop-generator.generator-index c.generator-item.result inv.from c.in_ok-keep.ensures.adds c.loop-generator-test.true c.generator-item.is;
      keeps = keeps_more meaning c.args.generators.now kept now c.loop-generator.generator-index c.generator-item.result inv.keeps c.in_ok-keep.ensures.adds c.loop-generator-test.true c.generator-item.is;
      small = omega arith;
    }

pub returns-clause-picked : goal.returns-clause-picked
returns-clause-picked g c =
    record {
      ascending = c.in_ok-ascending-2.ensures.ascending;
      from = λ z h. c.loop-generator.invariant.from z ((c.in_ok-ascending-2.ensures.values z).0 h);
    }

pub returns-clause-all : goal.returns-clause-all
returns-clause-all g c =
    let meaning = g.W.JoinWorld.meaning in
    let generators = c.args.generators.now in
    let kept = items_in c.loop-generator.kept in
    let end : c.loop-generator.generator-index ≡ length generators = omega arith in
    let keeps : KeepsFirst meaning generators kept (length generators) = subst (KeepsFirst meaning generators kept) end c.loop-generator.invariant.keeps in
    λ z h. (c.in_ok-ascending-2.ensures.values z).1 (keeps_all meaning generators kept keeps z h)

pub returns-in_err-keep-clause-picked : goal.returns-in_err-keep-clause-picked
returns-in_err-keep-clause-picked g c = IfOk-from_err c.from_residual.result _ c.from_residual.ensures.0

pub returns-in_err-keep-clause-all : goal.returns-in_err-keep-clause-all
returns-in_err-keep-clause-all g c = IfOk-from_err c.from_residual.result _ c.from_residual.ensures.0

pub returns-in_err-keep-clause-more : goal.returns-in_err-keep-clause-more
returns-in_err-keep-clause-more g c = IfOk-from_err c.from_residual.result _ c.from_residual.ensures.0

pub returns-in_err-ascending-clause-picked : goal.returns-in_err-ascending-clause-picked
returns-in_err-ascending-clause-picked g c = IfOk-from_err c.from_residual-in_err-ascending.result _ c.from_residual-in_err-ascending.ensures.0

pub returns-in_err-ascending-clause-all : goal.returns-in_err-ascending-clause-all
returns-in_err-ascending-clause-all g c = IfOk-from_err c.from_residual-in_err-ascending.result _ c.from_residual-in_err-ascending.ensures.0

pub returns-in_err-ascending-clause-more : goal.returns-in_err-ascending-clause-more
returns-in_err-ascending-clause-more g c = IfOk-from_err c.from_residual-in_err-ascending.result _ c.from_residual-in_err-ascending.ensures.0

pub returns-in_err-ascending-2-clause-picked : goal.returns-in_err-ascending-2-clause-picked
returns-in_err-ascending-2-clause-picked g c = IfOk-from_err c.from_residual-in_err-ascending-2.result _ c.from_residual-in_err-ascending-2.ensures.0

pub returns-in_err-ascending-2-clause-all : goal.returns-in_err-ascending-2-clause-all
returns-in_err-ascending-2-clause-all g c = IfOk-from_err c.from_residual-in_err-ascending-2.result _ c.from_residual-in_err-ascending-2.ensures.0

pub returns-in_err-ascending-2-clause-more : goal.returns-in_err-ascending-2-clause-more
returns-in_err-ascending-2-clause-more g c = IfOk-from_err c.from_residual-in_err-ascending-2.result _ c.from_residual-in_err-ascending-2.ensures.0

pub keep-requires-clause-item : goal.keep-requires-clause-item
keep-requires-clause-item g c =
    let w = g.W.JoinWorld in
    read_fits w.meaning (w.fits c.args.world.now) c.args.generators.now c.loop-generator.generator-index c.generator-item.result c.requires.generators c.loop-generator-test.true c.generator-item.is

pub returns-then-len-limit-clause-more : goal.returns-then-len-limit-clause-more
returns-then-len-limit-clause-more g c = omega (arith, c.in_ok-ascending.ensures.count, c.in_ok-keep.ensures.adds.at_most_one, c.loop-generator.invariant.small)
