use Rattle.std.proofs.Common.{ℕ, ◌≡◌, ◌++◌, ◌∷◌, [], List, Option, Some, length, ap, sym, ◌∙◌, subst, arith}
use Rattle.state_pairs.specs.AddedPairs.{AddsPairs, AreNamedAtPlaces, AreNamedBy, AtBothPlaces, BelowCount, IsFound}
use Rattle.state_pairs.specs.Laws.AddedPairs.{adds_as, adds_found, adds_more, adds_nothing, at_these_places, listed_alone}
use Rattle.state_pairs.proofs.rows.RowsByState.pairs_by_places.Goals as goal
use Rattle.state_pairs.proofs.rows.RowsByState.pairs_by_places.Goals.{in-Some+in_ok-push, in_default}

pub loop-i-preserved : goal.loop-i-preserved
loop-i-preserved c =
    let rows = c.args.self.now.rows in
    let first = c.args.first.now in
    let second = c.args.second.now in
    let row = c.row.result.now in
    let other = c.row-in-loop-i.result.now in
    let i = c.loop-i.i in
    let now = c.loop-i.pairs.items in
    let more = c.match-named_pair.pairs.items in
    let found : AddsPairs (IsFound c.named_pair.result) now more =
    elim c.match-named_pair.branch [
      | in-Some+in_ok-push w ↦
          let pair = w.in-Some.pair in
          let items : more ≡ now ++ pair ∷ [] = ap (λ v. v.items) w.pairs-is ∙ w.in_ok-push.ensures.items in
          subst (λ (o : Option (ℕ × ℕ)). AddsPairs (IsFound o) now more) (sym w.in-Some.is) (subst (λ (list : List (ℕ × ℕ)). AddsPairs (IsFound (Some pair)) now list) (sym items) (adds_found pair now))
      | in_default w ↦
          let items : more ≡ now = ap (λ v. v.items) w.pairs-is in
          subst (λ (list : List (ℕ × ℕ)). AddsPairs (IsFound c.named_pair.result) now list) (sym items)
          (subst (λ (o : Option (ℕ × ℕ)). AddsPairs (IsFound o) now now) (sym w.in_default.is) (adds_nothing now))
    ] in
    adds_more (AtBothPlaces rows first second) i (AreNamedBy row other) [] now more
    (at_these_places rows first second i row other c.row.ensures.row c.row-in-loop-i.ensures.row) c.loop-i.invariant
    (adds_as (IsFound c.named_pair.result) (AreNamedBy row other) now more c.named_pair.ensures found)

pub returns : goal.returns
returns c =
    let places = AtBothPlaces c.args.self.now.rows c.args.first.now c.args.second.now in
    let all : c.loop-i.i ≡ length c.args.first.now = omega (arith, c.loop-i-test.false, c.loop-i.auto.i-end) in
    listed_alone (AreNamedAtPlaces c.args.self.now.rows c.args.first.now c.args.second.now) c.loop-i.pairs.items
    (subst (λ (n : ℕ). AddsPairs (BelowCount places n) [] c.loop-i.pairs.items) all c.loop-i.invariant)
