use Rattle.std.proofs.Common.{ℕ, IfSome, Option, inl, inr, subst, sym}
use Rattle.kiss_file.specs.declared.file.KissFile.{KissFile}
use Rattle.state_pairs.specs.RowLabels.{DifferAt, DifferOpen, HaveOneLabel, SayTwo}
use Rattle.state_rows.specs.Least.{IsMetBy}
use Rattle.state_pairs.specs.Laws.Labels.{never_open}
use Rattle.state_rows.specs.Laws.Least.{if_some_map, lesser_either, met_either}
use Rattle.machine_table.proofs.machine.Machine.first_differing.Goals.{After-first_said-found}
use Rattle.machine_table.proofs.machine.Machine.first_differing.Given as given
use Rattle.machine_table.proofs.machine.Machine.first_differing.Goals as goal

pub first_said-found-requires-clause-one : goal.first_said-found-requires-clause-one
first_said-found-requires-clause-one g c = subst (HaveOneLabel (g.Q.Question.said c.args.search.now.question.now)) (sym c.self.view_is) c.requires.one

-- what rows of both states give
two_said : (g : given.Over) (c : After-first_said-found g)
    → IfSome c.first_said-found.result (SayTwo (g.Q.Question.said c.args.search.now.question.now) c.args.self.now c.args.search.now.s c.args.search.now.t)
two_said g c =
    subst (λ (F : KissFile). IfSome c.first_said-found.result (SayTwo (g.Q.Question.said c.args.search.now.question.now) F c.args.search.now.s c.args.search.now.t)) c.self.view_is
    c.first_said-found.ensures.some

two_met : (g : given.Over) (c : After-first_said-found g) (y : ℕ) → SayTwo (g.Q.Question.said c.args.search.now.question.now) c.args.self.now c.args.search.now.s c.args.search.now.t y
    → IsMetBy c.first_said-found.result c.args.search.now.least y
two_met g c y two =
    c.first_said-found.ensures.met y (subst (λ (F : KissFile). SayTwo (g.Q.Question.said c.args.search.now.question.now) F c.args.search.now.s c.args.search.now.t y) (sym c.self.view_is) two)

two_differ : (g : given.Over) (c : After-first_said-found g)
    → IfSome c.first_said-found.result (DifferAt (g.Q.Question.said c.args.search.now.question.now) (g.Q.Question.unsaid c.args.search.now.question.now) c.args.self.now c.args.search.now.s c.args.search.now.t)
two_differ g c =
    let said = g.Q.Question.said c.args.search.now.question.now in
    let unsaid = g.Q.Question.unsaid c.args.search.now.question.now in
    let F = c.args.self.now in
    if_some_map (SayTwo said F c.args.search.now.s c.args.search.now.t) (DifferAt said unsaid F c.args.search.now.s c.args.search.now.t) c.first_said-found.result (λ x two. inl two) (two_said g c)

pub returns-then-is_settled-clause-some : goal.returns-then-is_settled-clause-some
returns-then-is_settled-clause-some g c = two_differ g (goal.at.returns-then-is_settled-clause-some g c).After-first_said-found

pub returns-then-is_complete-clause-some : goal.returns-then-is_complete-clause-some
returns-then-is_complete-clause-some g c = two_differ g (goal.at.returns-then-is_complete-clause-some g c).After-first_said-found

pub returns-then-is_complete-clause-met : goal.returns-then-is_complete-clause-met
returns-then-is_complete-clause-met g c y differ =
    elim differ [
      | inl two ↦ two_met g (goal.at.returns-then-is_complete-clause-met g c).After-first_said-found y two
      | inr silent ↦
          absurd (never_open c.args.self.now (g.Q.Question.said c.args.search.now.question.now) (g.Q.Question.unsaid c.args.search.now.question.now)
          c.args.search.now.s c.args.search.now.t (c.requires.none_open (c.is_complete.ensures.specified c.if-is_complete.true)) y silent)
    ]

pub returns-clause-some : goal.returns-clause-some
returns-clause-some g c =
    let said = g.Q.Question.said c.args.search.now.question.now in
    let unsaid = g.Q.Question.unsaid c.args.search.now.question.now in
    let F = c.args.self.now in
    subst (λ (o : Option ℕ). IfSome o (DifferAt said unsaid F c.args.search.now.s c.args.search.now.t)) (sym c.lesser.ensures)
    (lesser_either (SayTwo said F c.args.search.now.s c.args.search.now.t) (DifferOpen said unsaid F c.args.search.now.s c.args.search.now.t) c.first_said-found.result c.first_open_differing.result
    (two_said g (goal.at.returns-clause-some g c).After-first_said-found)
    (subst (λ (G : KissFile). IfSome c.first_open_differing.result (DifferOpen said unsaid G c.args.search.now.s c.args.search.now.t)) c.self.view_is c.first_open_differing.ensures.some))

pub returns-clause-met : goal.returns-clause-met
returns-clause-met g c y differ =
    let said = g.Q.Question.said c.args.search.now.question.now in
    let unsaid = g.Q.Question.unsaid c.args.search.now.question.now in
    let F = c.args.self.now in
    subst (λ (o : Option ℕ). IsMetBy o c.args.search.now.least y) (sym c.lesser.ensures)
    (met_either (SayTwo said F c.args.search.now.s c.args.search.now.t) (DifferOpen said unsaid F c.args.search.now.s c.args.search.now.t) c.first_said-found.result c.first_open_differing.result
    c.args.search.now.least (two_met g (goal.at.returns-clause-met g c).After-first_said-found)
    (subst (λ (G : KissFile). (z : ℕ) → DifferOpen said unsaid G c.args.search.now.s c.args.search.now.t z → IsMetBy c.first_open_differing.result c.args.search.now.least z) c.self.view_is
    c.first_open_differing.ensures.met) y differ)
