use Rattle.symbol_runs.proofs.Walking.{walk_judged}
use Rattle.symbol_runs.proofs.walks.walk.Goals as goal

pub returns : goal.returns
returns c =
    walk_judged c.args.machine.now c.args.symbols.now c.inputs.result c.outputs.result c.in_ok-word.word.items c.deref.result.now c.in_ok-outputs.outputs.items c.deref-2.result.now _ c.inputs.ensures.count c.outputs.ensures.count
    c.deref.ensures.value c.deref-2.ensures.value c.in_ok-word.ensures.0 c.in_ok-word.ensures.1.0 c.in_ok-outputs.ensures.outputs c.in_ok-answer_lines.ensures
