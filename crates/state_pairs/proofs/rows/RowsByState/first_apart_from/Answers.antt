use Rattle.std.proofs.Common.{ℕ, ◌<◌, ◌+◌, ◌^◌, All, Contains, sym, subst}
use Rattle.state_pairs.specs.RowLabels.{IsApartAt}
use Rattle.state_rows.specs.Least.{lesser_of}
use Rattle.state_pairs.specs.MarkedRows.{IsApartIn, MeetsEach}
use Rattle.state_rows.specs.Bundles.{IsFit}
use Rattle.state_pairs.proofs.MarkedRows.{IsSearchedOver, apart_of_state, meets_each_row, meets_first_more}
use Rattle.state_rows.specs.Laws.Least.{if_some_map, lesser_has, met_left, met_right}
use Rattle.state_pairs.proofs.rows.RowsByState.first_apart_from.Goals.{After-lesser-found}
use Rattle.state_pairs.proofs.rows.RowsByState.first_apart_from.Given as given
use Rattle.state_pairs.proofs.rows.RowsByState.first_apart_from.Goals as goal

searched : (g : given.Over) (c : After-lesser-found g)
    → IsSearchedOver (g.Q.Question.said c.args.search.now.question.now) c.args.self.now c.args.search.now.t c.bundles_of-bundle-items.result.now (c.loop-bundle.bundle-index + 1) c.args.row.now c.args.search.now.least c.lesser-found.result
searched g c =
    let F = c.args.self.now in
    let said = g.Q.Question.said c.args.search.now.question.now in
    let row = c.args.row.now in
    let least = c.args.search.now.least in
    let bundles = c.bundles_of-bundle-items.result.now in
    let bundle = c.bundle-item.result in
    let old = c.loop-bundle.found in
    let more = c.first_apart_in.result in
    let among : Contains bundles bundle = (c.loop-bundle.bundle-index, c.loop-bundle-test.true, sym c.bundle-item.is) in
    let inner = c.first_apart_in.ensures in
    subst (IsSearchedOver said F c.args.search.now.t bundles (c.loop-bundle.bundle-index + 1) row least) (sym c.lesser-found.ensures)
    (record {
      some = lesser_has (IsApartAt said F c.args.search.now.t row) old more c.loop-bundle.invariant.some
          (if_some_map (IsApartIn said F.rows bundle.numbers row) (IsApartAt said F c.args.search.now.t row) more
          (apart_of_state said F c.args.search.now.t bundles bundle row c.bundles_of-bundle-items.ensures.own among) inner.some);
      within = lesser_has (λ x. x < 2 ^ F.inputs) old more c.loop-bundle.invariant.within inner.within;
      met = meets_first_more F.rows bundles c.loop-bundle.bundle-index bundle (MeetsEach said row old least) (MeetsEach said row (lesser_of old more) least)
          c.bundle-item.is c.loop-bundle-test.true c.loop-bundle.invariant.met
          (λ r done y apart. met_left old more least y (done y apart))
          (λ k r at y apart. met_right old more least y (inner.met k r at y apart));
    })

pub first_apart_in-requires-clause-bundle : goal.first_apart_in-requires-clause-bundle
first_apart_in-requires-clause-bundle g c =
    c.bundles_of-bundle-items.ensures.right c.bundle-item.result (c.loop-bundle.bundle-index, c.loop-bundle-test.true, sym c.bundle-item.is)

pub first_apart_in-requires-clause-fit : goal.first_apart_in-requires-clause-fit
first_apart_in-requires-clause-fit g c =
    subst (λ (w : ℕ). All (IsFit w) c.args.self.now.rows) (sym c.requires.row.width) c.bundles_of-bundle-items.ensures.fit

pub loop-bundle-preserved : goal.loop-bundle-preserved
loop-bundle-preserved g c = searched g (goal.at.loop-bundle-preserved g c).After-lesser-found

pub returns-then-is_settled-clause-some : goal.returns-then-is_settled-clause-some
returns-then-is_settled-clause-some g c = (searched g (goal.at.returns-then-is_settled-clause-some g c).After-lesser-found).some

pub returns-then-is_settled-clause-within : goal.returns-then-is_settled-clause-within
returns-then-is_settled-clause-within g c = (searched g (goal.at.returns-then-is_settled-clause-within g c).After-lesser-found).within

pub returns-clause-met : goal.returns-clause-met
returns-clause-met g c y (other, of_state, apart) =
    let F = c.args.self.now in
    let asked = c.bundles_of-bundle-items in
    meets_each_row F c.args.search.now.t asked.result.now c.loop-bundle.bundle-index (MeetsEach (g.Q.Question.said c.args.search.now.question.now) c.args.row.now c.loop-bundle.found c.args.search.now.least)
    asked.ensures.each c.loop-bundle-test.false c.loop-bundle.invariant.met other of_state y apart
