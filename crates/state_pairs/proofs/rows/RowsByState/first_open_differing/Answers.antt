use Rattle.std.proofs.Common.{ℕ, IfSome, Option, inl, inr, subst, sym}
use Rattle.state_pairs.specs.RowLabels.{DifferBothOpen, DifferOpen, SaysAlone}
use Rattle.state_rows.specs.Least.{IsMetBy}
use Rattle.state_rows.specs.Laws.Least.{if_some_map, lesser_has, met_left, met_right}
use Rattle.state_pairs.proofs.rows.RowsByState.first_open_differing.Goals.{After-lesser-either}
use Rattle.state_pairs.proofs.rows.RowsByState.first_open_differing.Given as given
use Rattle.state_pairs.proofs.rows.RowsByState.first_open_differing.Goals as goal

-- what either search of a state alone found
either_some : (g : given.Over) (c : After-lesser-either g)
    → IfSome c.lesser-either.result (DifferOpen (g.Q.Question.said c.args.search.now.question.now) (g.Q.Question.unsaid c.args.search.now.question.now) c.args.self.now c.args.search.now.s c.args.search.now.t)
either_some g c =
    let said = g.Q.Question.said c.args.search.now.question.now in
    let unsaid = g.Q.Question.unsaid c.args.search.now.question.now in
    let F = c.args.self.now in
    let s = c.args.search.now.s in
    let t = c.args.search.now.t in
    let Differ : ℕ → Type 0 = DifferOpen said unsaid F s t in
    subst (λ (o : Option ℕ). IfSome o Differ) (sym c.lesser-either.ensures)
    (lesser_has Differ c.first_alone-first.result c.first_alone.result
    (if_some_map (SaysAlone said F s t (unsaid t)) Differ c.first_alone-first.result (λ x says. inl says) c.first_alone-first.ensures.some)
    (if_some_map (SaysAlone said F t s (unsaid s)) Differ c.first_alone.result (λ x says. inr (inl says)) c.first_alone.ensures.some))

pub returns-then-is_settled-2-clause-some : goal.returns-then-is_settled-2-clause-some
returns-then-is_settled-2-clause-some g c = either_some g (goal.at.returns-then-is_settled-2-clause-some g c).After-lesser-either

pub returns-clause-some : goal.returns-clause-some
returns-clause-some g c =
    let said = g.Q.Question.said c.args.search.now.question.now in
    let unsaid = g.Q.Question.unsaid c.args.search.now.question.now in
    let F = c.args.self.now in
    let Differ : ℕ → Type 0 = DifferOpen said unsaid F c.args.search.now.s c.args.search.now.t in
    subst (λ (o : Option ℕ). IfSome o Differ) (sym c.lesser.ensures)
    (lesser_has Differ c.lesser-either.result c.first_both_open.result
    (either_some g (goal.at.returns-clause-some g c).After-lesser-either)
    (if_some_map (DifferBothOpen said unsaid F c.args.search.now.s c.args.search.now.t) Differ c.first_both_open.result (λ x both. inr (inr both)) c.first_both_open.ensures.some))

pub returns-clause-met : goal.returns-clause-met
returns-clause-met g c y differ =
    let least = c.args.search.now.least in
    subst (λ (o : Option ℕ). IsMetBy o least y) (sym c.lesser.ensures)
    (elim differ [
      | inl first ↦
          met_left c.lesser-either.result c.first_both_open.result least y
          (subst (λ (o : Option ℕ). IsMetBy o least y) (sym c.lesser-either.ensures)
          (met_left c.first_alone-first.result c.first_alone.result least y (c.first_alone-first.ensures.met y first)))
      | inr others ↦
          elim others [
            | inl second ↦
                met_left c.lesser-either.result c.first_both_open.result least y
                (subst (λ (o : Option ℕ). IsMetBy o least y) (sym c.lesser-either.ensures)
                (met_right c.first_alone-first.result c.first_alone.result least y (c.first_alone.ensures.met y second)))
            | inr both ↦ met_right c.lesser-either.result c.first_both_open.result least y (c.first_both_open.ensures.met y both)
          ]
    ])
