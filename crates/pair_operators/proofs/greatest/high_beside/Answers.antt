use Rattle.std.proofs.lemmas.Result.{IfOk-from_err, err_from_is_err_and}
use Rattle.partition.specs.Laws.Labels.{IsPartition-of}
use Rattle.pair_operators.proofs.Classes.{none_known}
use Rattle.pair_operators.proofs.greatest.high_beside.Goals as goal

pub high_from-requires-clause-pair : goal.high_from-requires-clause-pair
high_from-requires-clause-pair c =
    none_known c.args.m.now c.in_ok-zero.zero c.args.q.now c.states.ensures.inside (IsPartition-of c.states.ensures.count c.in_ok-zero.ensures.lawful) c.requires.states c.in_ok-zero.ensures.zero

pub returns-in_err-zero-clause-asked : goal.returns-in_err-zero-clause-asked
returns-in_err-zero-clause-asked c = let p = err_from_is_err_and c.from_residual.result c.from_residual.ensures.1 in rw p.1 tt

pub returns-in_err-zero-clause-high : goal.returns-in_err-zero-clause-high
returns-in_err-zero-clause-high c = IfOk-from_err _ _ c.from_residual.ensures.0
