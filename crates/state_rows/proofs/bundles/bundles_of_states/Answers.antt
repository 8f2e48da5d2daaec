use Rattle.std.proofs.Common.{ℕ, ◌≡◌, ◌+◌, ◌<◌, ◌∷◌, [], ◌++◌, All, AllPairs, List, length, sym, ◌∙◌, subst, arith, length-append}
use Rattle.std.proofs.lemmas.List.{get_or_default}
use Rattle.std.proofs.lemmas.Result.{IfOk-from_err}
use Rattle.state_rows.specs.declared.bundles.RowBundle.{RowBundle}
use Rattle.state_rows.specs.Bundles.{AreBundles, bundles_of}
use Rattle.state_rows.specs.Places.{places_of}
use Rattle.state_rows.proofs.RowBundles.{bundles_more_states, inside_of_places, list_bundles}
use Rattle.state_rows.proofs.bundles.bundles_of_states.Goals as goal

-- the numbers of the state that is read
numbers_of : (c : goal.After-as_slice) → c.as_slice.result.now ≡ places_of c.args.places.now c.loop-list.list-index
numbers_of c = c.as_slice.ensures ∙ c.list-item.is ∙ get_or_default c.args.places.now c.loop-list.list-index c.list-item.result [] c.loop-list-test.true

pub bundles_of_numbers-requires-clause-inside : goal.bundles_of_numbers-requires-clause-inside
bundles_of_numbers-requires-clause-inside c =
    subst (All (λ i. i < length c.args.rows.now)) (sym (numbers_of c)) (inside_of_places c.args.rows.now c.args.places.now c.requires c.loop-list.list-index)

pub bundles_of_numbers-requires-clause-ascending : goal.bundles_of_numbers-requires-clause-ascending
bundles_of_numbers-requires-clause-ascending c =
    subst (AllPairs (λ i j. i < j)) (sym (numbers_of c)) (c.requires.ascending c.loop-list.list-index)

pub loop-list-preserved : goal.loop-list-preserved
loop-list-preserved c =
    let rows = c.args.rows.now in
    let places = c.args.places.now in
    let lists = c.loop-list.bundles.items in
    let n = c.loop-list.list-index in
    let own = c.from.result in
    let numbers = c.as_slice.result.now in
    let pushed : c.push.new.self.items ≡ lists ++ own ∷ [] = c.in_ok-push.ensures.items in
    let is : numbers ≡ places_of places n = c.as_slice.ensures ∙ c.list-item.is ∙ get_or_default places n c.list-item.result [] c.loop-list-test.true in
    let now : AreBundles rows (places_of places n) own =
    subst (λ (list : List RowBundle). AreBundles rows (places_of places n) list) (sym c.from.ensures) (subst (λ (ns : List ℕ). AreBundles rows ns c.in_ok-own.own.items) is c.in_ok-own.ensures) in
    record {
      count = subst (λ (all : List (List RowBundle)). length all ≡ n + 1) (sym pushed) (omega (arith, length-append lists (own ∷ []), c.loop-list.invariant.count));
      each = subst (λ (all : List (List RowBundle)). (s : ℕ) → s < n + 1 → AreBundles rows (places_of places s) (bundles_of all s)) (sym pushed)
          (bundles_more_states rows places lists n own c.loop-list.invariant.count now c.loop-list.invariant.each);
    }

pub returns : goal.returns
returns c =
    let all : c.loop-list.list-index ≡ length c.args.places.now = omega (arith, c.loop-list-test.false, c.loop-list.auto.list-index-end) in
    list_bundles c.args.rows.now c.args.places.now c.loop-list.bundles.items c.requires (c.loop-list.invariant.count ∙ all)
    (λ s below. c.loop-list.invariant.each s (omega (arith, below, all)))

pub returns-in_err-bundles : goal.returns-in_err-bundles
returns-in_err-bundles c = IfOk-from_err c.from_residual.result _ c.from_residual.ensures.0

pub returns-in_err-own : goal.returns-in_err-own
returns-in_err-own c = IfOk-from_err c.from_residual-in_err-own.result _ c.from_residual-in_err-own.ensures.0

pub returns-in_err-push : goal.returns-in_err-push
returns-in_err-push c = IfOk-from_err c.from_residual-in_err-push.result _ c.from_residual-in_err-push.ensures.0
