use Rattle.std.proofs.Common.{ℕ, ◌≡◌, ◌<◌, ◌-◌, ◌^◌, IfSome, Option, Some, length, ap, ◌∙◌, subst}
use Rattle.cubes.specs.Symbol.{symbol_of}
use Rattle.kiss_file.specs.Machine.{next}
use Rattle.machine_table.proofs.GatheredOutputs.{all_known, gathered_below, gathered_outputs}
use Rattle.machine_table.proofs.machine.Machine.step_in.Goals as goal

pub returns : goal.returns
returns c =
    let F = c.args.self.now in
    let found = c.gathered_in-found.result in
    let parts = c.gathered_in-found.ensures in
    let named : found.next ≡ Some c.in_ok-found.field-0 = c.in_ok-found.was in
    let goes = subst (λ (o : Option ℕ). IfSome o (λ t. (t ≡ next F c.args.s (symbol_of F.inputs c.args.x)) × (t < length F.states))) named parts.next_state in
    let whole : found.given ≡ 2 ^ F.outputs - 1 = c.if-found-all_outputs.false ∙ c.all_outputs.ensures ∙ ap (λ (n : ℕ). 2 ^ n - 1) c.outputs.ensures.count in
    record {
      next_state = goes.0;
      state = goes.1;
      outputs = gathered_outputs F c.args.s c.args.x found.given found.word parts.outputs (λ b inside none. all_known F c.args.s c.args.x found.given b whole inside none);
      below = gathered_below F c.args.s c.args.x found.given found.word parts.outputs;
    }
