use Rattle.std.proofs.Common.{[], ◌∷◌, inl, inr}
use Rattle.answers.specs.Cause.{CallsForNone}
use Rattle.answers.specs.Laws.Causes.{none_first, reported_within}
use Rattle.io_pairs.specs.Inputs.{IsInMmPair}
use Rattle.partition.specs.Sides.{RightBefore}
use Rattle.machine_reports.specs.Causes.{MoreThan, RefusesInputPairs, TooManyInputsRow}
use Rattle.machine_reports.specs.ListTexts.{IsEvidenceText, IsListText, pair_line}
use Rattle.machine_reports.proofs.input_lists.ispairs.Goals as goal

pub returns : goal.returns
returns c =
    let M = c.args.machine.now in
    let few : CallsForNone (TooManyInputsRow M) = c.in_ok-few_inputs.ensures.0 in
    let many = MoreThan RightBefore (IsInMmPair M) c.args.limit in
    let whole = IsListText pair_line RightBefore (IsInMmPair M) c.args.limit in
    let shown = IsEvidenceText pair_line RightBefore (IsInMmPair M) c.args.limit in
    reported_within many (RefusesInputPairs M c.args.limit) whole shown whole shown c.listed.result (λ refusal called. inr (few, inl called))
    (λ none. none_first (TooManyInputsRow M ∷ many ∷ []) (few, (none, tt))) (λ text is. is) (λ text is. is) c.listed.ensures
