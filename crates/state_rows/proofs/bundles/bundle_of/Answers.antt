use Rattle.std.proofs.Common.{◌∙◌}
use Rattle.std.proofs.lemmas.Result.{IfOk-from_err}
use Rattle.state_rows.proofs.RowBundles.{bundle_of_patterns}
use Rattle.state_rows.proofs.bundles.bundle_of.Goals as goal

pub returns-clause-numbers : goal.returns-clause-numbers
returns-clause-numbers c = c.from.ensures ∙ c.in_ok-copied.ensures.items_if_clones_equal (λ x y is. is)

pub returns-clause-bundle : goal.returns-clause-bundle
returns-clause-bundle c =
    bundle_of_patterns c.args.rows.now c.args.numbers.now c.from.result c.in_ok-cubes.cubes c.in_ok-nexts.nexts c.in_ok-outputs.outputs
    (c.from.ensures ∙ c.in_ok-copied.ensures.items_if_clones_equal (λ x y is. is)) c.requires.few c.requires.inside c.requires.ascending
    c.in_ok-cubes.ensures c.in_ok-nexts.ensures c.in_ok-outputs.ensures

pub returns-in_err-copied-clause-numbers : goal.returns-in_err-copied-clause-numbers
returns-in_err-copied-clause-numbers c = IfOk-from_err c.from_residual.result _ c.from_residual.ensures.0

pub returns-in_err-copied-clause-bundle : goal.returns-in_err-copied-clause-bundle
returns-in_err-copied-clause-bundle c = IfOk-from_err c.from_residual.result _ c.from_residual.ensures.0

pub returns-in_err-cubes-clause-numbers : goal.returns-in_err-cubes-clause-numbers
returns-in_err-cubes-clause-numbers c = IfOk-from_err c.from_residual-in_err-cubes.result _ c.from_residual-in_err-cubes.ensures.0

pub returns-in_err-cubes-clause-bundle : goal.returns-in_err-cubes-clause-bundle
returns-in_err-cubes-clause-bundle c = IfOk-from_err c.from_residual-in_err-cubes.result _ c.from_residual-in_err-cubes.ensures.0

pub returns-in_err-nexts-clause-numbers : goal.returns-in_err-nexts-clause-numbers
returns-in_err-nexts-clause-numbers c = IfOk-from_err c.from_residual-in_err-nexts.result _ c.from_residual-in_err-nexts.ensures.0

pub returns-in_err-nexts-clause-bundle : goal.returns-in_err-nexts-clause-bundle
returns-in_err-nexts-clause-bundle c = IfOk-from_err c.from_residual-in_err-nexts.result _ c.from_residual-in_err-nexts.ensures.0

pub returns-in_err-outputs-clause-numbers : goal.returns-in_err-outputs-clause-numbers
returns-in_err-outputs-clause-numbers c = IfOk-from_err c.from_residual-in_err-outputs.result _ c.from_residual-in_err-outputs.ensures.0

pub returns-in_err-outputs-clause-bundle : goal.returns-in_err-outputs-clause-bundle
returns-in_err-outputs-clause-bundle c = IfOk-from_err c.from_residual-in_err-outputs.result _ c.from_residual-in_err-outputs.ensures.0
