use Rattle.std.proofs.Common.{ℕ, ◌≡◌, ◌+◌, ◌↔◌, ◌<◌, ◌∷◌, [], ◌++◌, List, Contains, length, get_or, sym, ◌∙◌, subst, arith, length-append}
use Rattle.std.proofs.lemmas.List.{get_or_default}
use Rattle.state_rows.specs.Places.{places_of}
use Rattle.state_rows.proofs.Ordered.{listed, same_more}
use Rattle.state_rows.proofs.order.places_by_cubes.Goals as goal

pub loop-list-preserved : goal.loop-list-preserved
loop-list-preserved c =
    let places = c.args.places.now in
    let lists = c.loop-list.ordered.items in
    let n = c.loop-list.list-index in
    let list = c.from.result in
    let own = c.as_slice.result.now in
    let pushed : c.push.new.self.items ≡ lists ++ list ∷ [] = c.in_ok-push.ensures.items in
    let is : own ≡ get_or places n own =
    c.as_slice.ensures ∙ c.list-item.is ∙ get_or_default places n c.list-item.result own c.loop-list-test.true in
    let same : (i : ℕ) → Contains list i ↔ Contains own i =
    (λ i. subst (λ (numbers : List ℕ). Contains numbers i ↔ Contains own i) (sym c.from.ensures) (c.in_ok-numbers.ensures i)) in
    record {
      count = subst (λ (all : List (List ℕ)). length all ≡ n + 1) (sym pushed) (omega (arith, length-append lists (list ∷ []), c.loop-list.invariant.count));
      same = subst (λ (all : List (List ℕ)). (s i : ℕ) → s < n + 1 → Contains (places_of all s) i ↔ Contains (places_of places s) i) (sym pushed)
          (same_more lists places n list own c.loop-list.invariant.count c.loop-list-test.true is same c.loop-list.invariant.same);
    }

pub returns : goal.returns
returns c =
    let all : c.loop-list.list-index ≡ length c.args.places.now = omega (arith, c.loop-list-test.false, c.loop-list.auto.list-index-end) in
    listed c.args.rows.now c.args.places.now c.loop-list.ordered.items c.requires (c.loop-list.invariant.count ∙ all)
    (λ s i below. c.loop-list.invariant.same s i (omega (arith, below, all)))
