use Rattle.std.proofs.lemmas.Result.{err_from_is_err_and}
use Rattle.generated_texts.proofs.Trying.{codes_none, codes_stop, plan_stops, planned_by_kind}
use Rattle.generated_texts.proofs.trials.split_of.Goals as goal

pub codes_of-requires-clause-planned : goal.codes_of-requires-clause-planned
codes_of-requires-clause-planned c = planned_by_kind c.args.work.now.machine c.in_ok-split.split c.in_ok-split.ensures.1

pub returns-in_err-split : goal.returns-in_err-split
returns-in_err-split c =
    let p = err_from_is_err_and c.from_residual.result c.from_residual.ensures.1 in
    rw (p.1, p.2) (plan_stops c.args.numbers.seed c.args.numbers.a c.args.numbers.b c.args.numbers.k c.args.work.now.machine c.requires.sizes c.requires.made c.in_err-split.field-0.0 c.in_err-split.ensures)

pub returns-in_err-codes : goal.returns-in_err-codes
returns-in_err-codes c =
    let p = err_from_is_err_and c.from_residual-in_err-codes.result c.from_residual-in_err-codes.ensures.1 in
    rw (p.1, p.2)
    (codes_stop c.args.numbers.seed c.args.numbers.a c.args.numbers.b c.args.numbers.k c.args.work.now.machine c.requires.sizes c.requires.made c.in_ok-split.split c.in_err-codes.field-0.0 c.in_ok-split.ensures.1 c.in_err-codes.ensures)

pub returns : goal.returns
returns c = (
  codes_none c.args.numbers.seed c.args.numbers.a c.args.numbers.b c.args.numbers.k c.args.work.now.machine c.requires.sizes c.requires.made c.in_ok-split.split c.in_ok-codes.codes c.in_ok-split.ensures.1 c.in_ok-codes.ensures.1,
  record { planned = c.in_ok-split.ensures.1; codes = c.in_ok-codes.ensures.1 },
)
