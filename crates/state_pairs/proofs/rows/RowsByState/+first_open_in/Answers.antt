use Rattle.std.proofs.Common.{ℕ, ◌<◌, ◌^◌, Option, IfSome, true, false, sym, subst, inl, inr}
use Rattle.std.proofs.lemmas.Bool.{cases_Bool}
use Rattle.cubes.specs.Cube.{HoldsNumber}
use Rattle.cubes.specs.Symbol.{bit}
use Rattle.cubes.specs.Laws.Ends.{least_held, value_le}
use Rattle.cubes.specs.Laws.Parts.{half_from_whole, whole_from_half}
use Rattle.state_pairs.specs.RowLabels.{AreOpenAt}
use Rattle.state_rows.specs.Least.{IsMetBy}
use Rattle.cubes.specs.Laws.SharedCubes.{value_below}
use Rattle.state_rows.specs.Laws.Least.{if_some_map, lesser_has, met_left, met_right}
use Rattle.state_pairs.proofs.rows.RowsByState.+first_open_in.Goals as goal

pub returns-in_default-clause-some : goal.returns-in_default-clause-some
returns-in_default-clause-some g t c = (least_held c.args.cube, c.in_default.ensures.none c.args.cube.value (least_held c.args.cube))

pub returns-in_default-clause-within : goal.returns-in_default-clause-within
returns-in_default-clause-within g t c = subst (λ (w : ℕ). c.args.cube.value < 2 ^ w) c.requires.width (value_below c.args.cube)

pub returns-in_default-clause-met : goal.returns-in_default-clause-met
returns-in_default-clause-met g t c y held silent _ = value_le c.args.cube y held

pub returns-then-is_settled-clause-some : goal.returns-then-is_settled-clause-some
returns-then-is_settled-clause-some g t c =
    let Open : ℕ → Type 0 = AreOpenAt (g.Q.Question.said c.args.search.now.question.now) c.args.self.now c.args.search.now.s c.args.search.now.t in
    if_some_map (λ x. HoldsNumber c.half.result x × Open x) (λ x. HoldsNumber c.args.cube x × Open x) c.first_open_in-low.result
    (λ x found. ((whole_from_half c.args.cube c.half.result c.in_ok-place.place false c.half.ensures.half x found.0).0, found.1)) c.first_open_in-low.ensures.some

pub returns-clause-some : goal.returns-clause-some
returns-clause-some g t c =
    let Silent : ℕ → Type 0 = AreOpenAt (g.Q.Question.said c.args.search.now.question.now) c.args.self.now c.args.search.now.s c.args.search.now.t in
    subst (λ (o : Option ℕ). IfSome o (λ x. HoldsNumber c.args.cube x × Silent x)) (sym c.lesser.ensures)
    (lesser_has (λ x. HoldsNumber c.args.cube x × Silent x) c.first_open_in-low.result c.first_open_in.result
    (if_some_map (λ x. HoldsNumber c.half.result x × Silent x) (λ x. HoldsNumber c.args.cube x × Silent x) c.first_open_in-low.result
    (λ x found. ((whole_from_half c.args.cube c.half.result c.in_ok-place.place false c.half.ensures.half x found.0).0, found.1)) c.first_open_in-low.ensures.some)
    (if_some_map (λ x. HoldsNumber c.half-2.result x × Silent x) (λ x. HoldsNumber c.args.cube x × Silent x) c.first_open_in.result
    (λ x found. ((whole_from_half c.args.cube c.half-2.result c.in_ok-place.place true c.half-2.ensures.half x found.0).0, found.1)) c.first_open_in.ensures.some))

pub returns-clause-met : goal.returns-clause-met
returns-clause-met g t c y held silent =
    subst (λ (o : Option ℕ). IsMetBy o c.args.search.now.least y) (sym c.lesser.ensures)
    (elim (cases_Bool (bit y c.in_ok-place.place)) [
      | inl one ↦
          met_right c.first_open_in-low.result c.first_open_in.result c.args.search.now.least y
          (c.first_open_in.ensures.met y (half_from_whole c.args.cube c.half-2.result c.in_ok-place.place true c.half-2.ensures.half y (held, one)) silent)
      | inr none ↦
          met_left c.first_open_in-low.result c.first_open_in.result c.args.search.now.least y
          (c.first_open_in-low.ensures.met y (half_from_whole c.args.cube c.half.result c.in_ok-place.place false c.half.ensures.half y (held, none)) silent)
    ])
