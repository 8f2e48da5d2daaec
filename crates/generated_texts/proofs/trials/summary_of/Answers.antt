use Rattle.std.proofs.Common.{List, subst}
use Rattle.std.proofs.lemmas.Result.{IfOk-weaker}
use Rattle.state_codes.specs.declared.split.Part.{Part}
use Rattle.generated_texts.specs.Figures.{AreFigures}
use Rattle.generated_texts.proofs.trials.summary_of.Goals as goal

pub returns : goal.returns
returns c =
    IfOk-weaker c.trial.result _ _
    (λ text is. (
      c.in_ok-figures.figures,
      subst (λ (parts : List Part). AreFigures c.args.numbers.seed c.args.numbers.a c.args.numbers.b c.args.numbers.k c.args.machine.now parts c.in_ok-figures.figures) c.as_slice-parts.ensures c.in_ok-figures.ensures,
      is,
    ))
    c.trial.ensures
