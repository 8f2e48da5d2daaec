use Rattle.std.proofs.Common.{ℕ, ◌≡◌, ◌<◌, ◌+◌, ◌^◌, ◌++◌, [], ◌∷◌, List, All, drop, map, sym, subst}
use Rattle.std.proofs.lemmas.List.Elements.{All-push}
use Rattle.cubes.specs.Symbol.{symbol_of, lowest_bits}
use Rattle.kiss_file.specs.Machine.{answers}
use Rattle.machine_table.specs.Laws.OutputWords.{walked, walked_more}
use Rattle.machine_table.proofs.machine.Machine.walk.Goals as goal

pub loop-x-preserved : goal.loop-x-preserved
loop-x-preserved c =
    let F = c.args.self.now in
    let symbols = c.args.symbols.now in
    let i = c.loop-x.x-index in
    let pushed : c.push.new.self.items ≡ c.loop-x.words.items ++ c.step_met-step.result.outputs ∷ [] = c.in_ok-push.ensures.items in
    record {
      state = c.step_met-step.ensures.step.state;
      met = c.step_met-step.ensures.right;
      below = subst (λ (list : List ℕ). All (λ word. word < 2 ^ F.outputs) list) (sym pushed)
          (All-push (λ word. word < 2 ^ F.outputs) c.loop-x.words.items c.step_met-step.result.outputs c.loop-x.invariant.below c.step_met-step.ensures.step.below);
      outputs = subst (λ (list : List ℕ). map (lowest_bits F.outputs) list ++ answers F c.step_met-step.result.next (map (symbol_of F.inputs) (drop (i + 1) symbols)) ≡ answers F F.reset (map (symbol_of F.inputs) symbols))
          (sym pushed)
          (subst (λ (s : ℕ). map (lowest_bits F.outputs) (c.loop-x.words.items ++ c.step_met-step.result.outputs ∷ []) ++ answers F s (map (symbol_of F.inputs) (drop (i + 1) symbols)) ≡ answers F F.reset (map (symbol_of F.inputs) symbols))
          (sym c.step_met-step.ensures.step.next_state)
          (walked_more F c.loop-x.s c.loop-x.words.items c.step_met-step.result.outputs i symbols (answers F F.reset (map (symbol_of F.inputs) symbols)) c.loop-x-test.true c.step_met-step.ensures.step.outputs c.loop-x.invariant.outputs));
    }

pub returns-clause-outputs : goal.returns-clause-outputs
returns-clause-outputs c =
    walked c.args.self.now c.loop-x.s c.loop-x.words.items c.loop-x.x-index c.args.symbols.now _ c.loop-x-test.false c.loop-x.invariant.outputs
