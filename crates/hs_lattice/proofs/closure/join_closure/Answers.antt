use Rattle.std.proofs.Common.{map, All}
use Rattle.std.proofs.lemmas.List.{length-map}
use Rattle.std.proofs.lemmas.List.Elements.{All-map}
use Rattle.std.proofs.lemmas.Result.{IfOk-from_err}
use Rattle.hs_lattice.specs.JoinWorld.{IsGenerated}
use Rattle.hs_lattice.specs.Inner.Passes.{IsPicked}
use Rattle.hs_lattice.proofs.Distinct.{picked_fit, picked_is_evidence, lists_picked, joins_picked, evidence_picked, ascending_few}
use Rattle.hs_lattice.proofs.Exclusion.{StrictOrder, few_exclude_more}
use Rattle.hs_lattice.specs.Laws.Outcomes.{whole-from, more-from, whole-from_three}
use Rattle.hs_lattice.proofs.closure.join_closure.Goals as goal

pub joins_of-requires-clause-generators : goal.joins_of-requires-clause-generators
joins_of-requires-clause-generators g c =
    let w = g.W.JoinWorld in
    rw c.as_slice.ensures (picked_fit w.meaning (w.precedes c.args.world.now) (w.fits c.args.world.now) c.args.generators.now _ (rw c.in-Whole.is at c.in_ok-kept.ensures.picked) c.requires.generators)

pub returns-in-Whole-clause-whole : goal.returns-in-Whole-clause-whole
returns-in-Whole-clause-whole g c =
    let w = g.W.JoinWorld in
    let world = c.args.world.now in
    let kept = c.as_slice.result.now in
    let picked : IsPicked w.meaning (w.precedes world) c.args.generators.now kept = rw c.as_slice.ensures (rw c.in-Whole.is at c.in_ok-kept.ensures.picked) in
    whole-from c.joins_of.result _ _ (λ items. lists_picked w.meaning (w.precedes world) (w.least world) (w.joins world) c.args.generators.now kept (map w.meaning items) picked.from (rw c.as_slice.ensures (rw c.in-Whole.is at c.in_ok-kept.ensures.all))) c.joins_of.ensures.whole

pub returns-in-Whole-clause-joined : goal.returns-in-Whole-clause-joined
returns-in-Whole-clause-joined g c =
    let w = g.W.JoinWorld in
    let world = c.args.world.now in
    let kept = c.as_slice.result.now in
    whole-from c.joins_of.result _ _ (λ items. joins_picked w.meaning (w.least world) (w.joins world) c.args.generators.now kept (rw c.as_slice.ensures (rw c.in-Whole.is at c.in_ok-kept.ensures.all))) c.joins_of.ensures.joined

pub returns-in-Whole-clause-no_more : goal.returns-in-Whole-clause-no_more
returns-in-Whole-clause-no_more g c =
    let w = g.W.JoinWorld in
    let laws = g.met.W.JoinWorld in
    let world = c.args.world.now in
    let order : StrictOrder (w.fits world) (w.precedes world) = record {
      irreflexive = λ x. laws.precedes_irreflexive world x c.requires.world;
      transitive = λ x y z. laws.precedes_transitive world x y z c.requires.world;
    } in
    let P = IsGenerated (w.least world) (w.joins world) (map w.meaning c.args.generators.now) in
    whole-from_three c.joins_of.result _ _ (λ items. All (λ x. w.fits world (w.meaning x)) items) _
    (λ items lists few fit values evidence. few_exclude_more (w.fits world) (w.precedes world) P (map w.meaning items) values c.args.limit order (All-map (w.fits world) w.meaning items fit) lists (rw (length-map items w.meaning) few) evidence)
    (returns-in-Whole-clause-whole g c) c.joins_of.ensures.within c.joins_of.ensures.fit

pub returns-in-Whole-clause-few : goal.returns-in-Whole-clause-few
returns-in-Whole-clause-few g c =
    let w = g.W.JoinWorld in
    let laws = g.met.W.JoinWorld in
    let world = c.args.world.now in
    let lawful = c.requires.world in
    let bottom = w.meaning c.in_ok-bottom.bottom in
    let is = c.in_ok-bottom.ensures in
    let bottom_fits = laws.least_fits world bottom lawful is in
    whole-from c.joins_of.result _ _
    (λ items none ascending. ascending_few w.meaning (w.precedes world) (w.least world) (w.joins world) c.args.generators.now c.args.limit bottom ascending is
    (λ k d lt. let fit = c.requires.generators k d lt in laws.joins_commute world bottom _ _ lawful bottom_fits fit (laws.joins_least world bottom _ lawful is fit)) none)
    (returns-in-Whole-clause-no_more g c)

pub returns-in-Whole-clause-more : goal.returns-in-Whole-clause-more
returns-in-Whole-clause-more g c =
    let w = g.W.JoinWorld in
    let world = c.args.world.now in
    let kept = c.as_slice.result.now in
    let picked : IsPicked w.meaning (w.precedes world) c.args.generators.now kept = rw c.as_slice.ensures (rw c.in-Whole.is at c.in_ok-kept.ensures.picked) in
    more-from c.joins_of.result _ _ (λ items. evidence_picked w.meaning (w.precedes world) (w.least world) (w.joins world) c.args.generators.now kept c.args.limit (map w.meaning items) picked.from) c.joins_of.ensures.more

pub returns-in-More-clause-more : goal.returns-in-More-clause-more
returns-in-More-clause-more g c =
    let w = g.W.JoinWorld in
    let laws = g.met.W.JoinWorld in
    let world = c.args.world.now in
    let lawful = c.requires.world in
    let bottom = w.meaning c.in_ok-bottom.bottom in
    let is = c.in_ok-bottom.ensures in
    let bottom_fits = laws.least_fits world bottom lawful is in
    picked_is_evidence w.meaning (w.precedes world) (w.least world) (w.joins world) c.args.generators.now c.in-More.some c.args.limit bottom
    (rw c.in-More.is at c.in_ok-kept.ensures.picked) is
    (λ k d lt. let fit = c.requires.generators k d lt in laws.joins_commute world bottom _ _ lawful bottom_fits fit (laws.joins_least world bottom _ lawful is fit))
    (rw c.in-More.is at c.in_ok-kept.ensures.more)

pub returns-in-More-clause-fit : goal.returns-in-More-clause-fit
returns-in-More-clause-fit g c =
    let w = g.W.JoinWorld in
    picked_fit w.meaning (w.precedes c.args.world.now) (w.fits c.args.world.now) c.args.generators.now c.in-More.some (rw c.in-More.is at c.in_ok-kept.ensures.picked) c.requires.generators

pub returns-in_err-bottom-clause-whole : goal.returns-in_err-bottom-clause-whole
returns-in_err-bottom-clause-whole g c = IfOk-from_err c.from_residual.result _ c.from_residual.ensures.0

pub returns-in_err-bottom-clause-joined : goal.returns-in_err-bottom-clause-joined
returns-in_err-bottom-clause-joined g c = IfOk-from_err c.from_residual.result _ c.from_residual.ensures.0

pub returns-in_err-bottom-clause-within : goal.returns-in_err-bottom-clause-within
returns-in_err-bottom-clause-within g c = IfOk-from_err c.from_residual.result _ c.from_residual.ensures.0

pub returns-in_err-bottom-clause-no_more : goal.returns-in_err-bottom-clause-no_more
returns-in_err-bottom-clause-no_more g c = IfOk-from_err c.from_residual.result _ c.from_residual.ensures.0

pub returns-in_err-bottom-clause-more : goal.returns-in_err-bottom-clause-more
returns-in_err-bottom-clause-more g c = IfOk-from_err c.from_residual.result _ c.from_residual.ensures.0

pub returns-in_err-bottom-clause-fit : goal.returns-in_err-bottom-clause-fit
returns-in_err-bottom-clause-fit g c = IfOk-from_err c.from_residual.result _ c.from_residual.ensures.0

pub returns-in_err-kept-clause-whole : goal.returns-in_err-kept-clause-whole
returns-in_err-kept-clause-whole g c = IfOk-from_err c.from_residual-in_err-kept.result _ c.from_residual-in_err-kept.ensures.0

pub returns-in_err-kept-clause-joined : goal.returns-in_err-kept-clause-joined
returns-in_err-kept-clause-joined g c = IfOk-from_err c.from_residual-in_err-kept.result _ c.from_residual-in_err-kept.ensures.0

pub returns-in_err-kept-clause-within : goal.returns-in_err-kept-clause-within
returns-in_err-kept-clause-within g c = IfOk-from_err c.from_residual-in_err-kept.result _ c.from_residual-in_err-kept.ensures.0

pub returns-in_err-kept-clause-no_more : goal.returns-in_err-kept-clause-no_more
returns-in_err-kept-clause-no_more g c = IfOk-from_err c.from_residual-in_err-kept.result _ c.from_residual-in_err-kept.ensures.0

pub returns-in_err-kept-clause-more : goal.returns-in_err-kept-clause-more
returns-in_err-kept-clause-more g c = IfOk-from_err c.from_residual-in_err-kept.result _ c.from_residual-in_err-kept.ensures.0

pub returns-in_err-kept-clause-fit : goal.returns-in_err-kept-clause-fit
returns-in_err-kept-clause-fit g c = IfOk-from_err c.from_residual-in_err-kept.result _ c.from_residual-in_err-kept.ensures.0

pub returns-in_err-bottom-clause-few : goal.returns-in_err-bottom-clause-few
returns-in_err-bottom-clause-few g c = IfOk-from_err c.from_residual.result _ c.from_residual.ensures.0

pub returns-in_err-kept-clause-few : goal.returns-in_err-kept-clause-few
returns-in_err-kept-clause-few g c = IfOk-from_err c.from_residual-in_err-kept.result _ c.from_residual-in_err-kept.ensures.0
