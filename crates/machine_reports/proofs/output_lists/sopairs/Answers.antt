use Rattle.std.proofs.Common.{[], ◌∷◌, inl, inr}
use Rattle.answers.specs.Cause.{CallsForNone}
use Rattle.answers.specs.Laws.Causes.{none_first, reported_within}
use Rattle.io_pairs.specs.Outputs.{IsOutMmPair}
use Rattle.partition.specs.Sides.{RightBefore}
use Rattle.machine_reports.specs.Causes.{MoreThan, RefusesOutputPairs, TooManyInputsRow, TooManyOutputsRow}
use Rattle.machine_reports.specs.OutputTexts.{IsOutputEvidence, IsOutputText}
use Rattle.machine_reports.proofs.output_lists.sopairs.Goals as goal

pub returns : goal.returns
returns c =
    let M = c.args.machine.now in
    let few : CallsForNone (TooManyInputsRow M) = c.in_ok-few_inputs.ensures.0 in
    let few_outputs : CallsForNone (TooManyOutputsRow M) = c.in_ok-outs.ensures.0 in
    let many = MoreThan RightBefore (IsOutMmPair M) c.args.limit in
    let whole = IsOutputText M c.args.limit in
    let shown = IsOutputEvidence M c.args.limit in
    reported_within many (RefusesOutputPairs M c.args.limit) whole shown whole shown c.listed.result (λ refusal called. inr (few, inr (few_outputs, inl called)))
    (λ none. none_first (TooManyInputsRow M ∷ TooManyOutputsRow M ∷ many ∷ []) (few, (few_outputs, (none, tt)))) (λ text is. is) (λ text is. is) c.listed.ensures
