use Rattle.std.proofs.Common.{ℕ, ◌≡◌, ◌+◌, ◌<◌, List, [], ◌∷◌, ◌++◌, All, length, sym, subst, arith, length-append}
use Rattle.std.proofs.lemmas.List.Elements.{All-push}
use Rattle.std.proofs.lemmas.Result.{IfOk-from_err}
use Rattle.list_facts.specs.Laws.Places.{each_pushed}
use Rattle.state_rows.specs.Columns.{HaveSameCubes}
use Rattle.state_rows.specs.Places.{places_of}
use Rattle.state_rows.proofs.classes.leaders_of_states.Goals as goal

pub loop-s-preserved : goal.loop-s-preserved
loop-s-preserved c =
    let rows = c.args.rows.now in
    let places = c.args.places.now in
    let leaders = c.loop-s.leaders.items in
    let one = c.leader_of.result in
    let pushed : c.push.new.self.items ≡ leaders ++ one ∷ [] = c.in_ok-push.ensures.items in
    record {
      size = subst (λ (all : List ℕ). length all ≡ c.loop-s.s + 1) (sym pushed) (omega (arith, length-append leaders (one ∷ []), c.loop-s.invariant.size));
      inside = subst (λ (all : List ℕ). All (λ leader. leader < length places) all) (sym pushed)
          (All-push (λ leader. leader < length places) leaders one c.loop-s.invariant.inside c.leader_of.ensures.state);
      cubes = each_pushed leaders c.push.new.self.items one 0 c.loop-s.s (λ t leader. HaveSameCubes rows (places_of places leader) (places_of places t))
          c.loop-s.invariant.size pushed c.loop-s.invariant.cubes c.leader_of.ensures.cubes;
    }

pub returns-in_err-leaders-clause-size : goal.returns-in_err-leaders-clause-size
returns-in_err-leaders-clause-size c = IfOk-from_err c.from_residual.result _ c.from_residual.ensures.0

pub returns-in_err-leaders-clause-inside : goal.returns-in_err-leaders-clause-inside
returns-in_err-leaders-clause-inside c = IfOk-from_err c.from_residual.result _ c.from_residual.ensures.0

pub returns-in_err-leaders-clause-cubes : goal.returns-in_err-leaders-clause-cubes
returns-in_err-leaders-clause-cubes c = IfOk-from_err c.from_residual.result _ c.from_residual.ensures.0

pub returns-in_err-push-clause-size : goal.returns-in_err-push-clause-size
returns-in_err-push-clause-size c = IfOk-from_err c.from_residual-in_err-push.result _ c.from_residual-in_err-push.ensures.0

pub returns-in_err-push-clause-inside : goal.returns-in_err-push-clause-inside
returns-in_err-push-clause-inside c = IfOk-from_err c.from_residual-in_err-push.result _ c.from_residual-in_err-push.ensures.0

pub returns-in_err-push-clause-cubes : goal.returns-in_err-push-clause-cubes
returns-in_err-push-clause-cubes c = IfOk-from_err c.from_residual-in_err-push.result _ c.from_residual-in_err-push.ensures.0
