use Rattle.std.proofs.Common.{List, length, ap, subst, arith}
use Rattle.std.proofs.lemmas.Result.{err_from_is_err_and}
use Rattle.answers.specs.Cause.{CallsForNone}
use Rattle.answers.specs.Outcome.{IsStop}
use Rattle.answers.specs.Laws.Causes.{stop_within}
use Rattle.state_codes.specs.declared.split.Part.{Part}
use Rattle.part_texts.specs.Inner.PartHere.{HasNoSet, IsMissing, IsThere}
use Rattle.part_texts.proofs.Missing.{missing_has_no_set, small_set}
use Rattle.part_texts.proofs.flaws.set_of_part.Goals as goal

pub returns-in_err-check : goal.returns-in_err-check
returns-in_err-check c =
    let p = err_from_is_err_and c.from_residual.result c.from_residual.ensures.1 in
    rw (p.1, p.2)
    (stop_within (IsMissing c.args.which c.args.made.now.split.parts c.args.made.now.codes) (HasNoSet c.args.which c.args.made.now.split.parts c.args.made.now.codes c.args.made.now.reads) _
    (missing_has_no_set c.args.which c.args.made.now.split.parts c.args.made.now.codes c.args.made.now.reads)
    (subst (λ (list : List Part). IsStop (IsMissing c.args.which list c.args.made.now.codes) c.in_err-check.field-0.0) c.as_slice.ensures c.in_err-check.ensures))

pub returns : goal.returns
returns c =
    let there : CallsForNone (IsMissing c.args.which c.args.made.now.split.parts c.args.made.now.codes) × IsThere c.args.made.now.split.parts c.args.made.now.codes c.args.which =
    subst (λ (list : List Part). CallsForNone (IsMissing c.args.which list c.args.made.now.codes) × IsThere list c.args.made.now.codes c.args.which) c.as_slice.ensures c.in_ok-check.ensures in
    small_set c.args.which c.args.made.now.split.parts c.args.made.now.codes c.args.made.now.reads there.0 c.in_ok-set.set c.in_ok-set.ensures there.1
    (omega (arith, c.if-inputs-gt-MOST_INPUTS.false, ap length c.as_slice-2.ensures, ap length c.as_slice-3.ensures))
