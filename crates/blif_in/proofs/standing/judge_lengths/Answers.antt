use Rattle.std.proofs.Common.{◌<◌, ℕ, List, length, sym, subst}
use Rattle.std.proofs.lemmas.Result.{err_from_is_err_and}
use Rattle.blif_in.proofs.Names.{long_here, long_more, long_none}
use Rattle.blif_in.proofs.standing.judge_lengths.Goals as goal

pub judge_length-requires : goal.judge_length-requires
judge_length-requires c = subst (λ (name : List ℕ). length name < 4294967296) (sym c.name-item.is) (c.requires c.loop-name.name-index c.name-item.result c.loop-name-test.true)

pub loop-name-preserved : goal.loop-name-preserved
loop-name-preserved c = long_more c.args.names.now c.loop-name.name-index c.name-item.result c.loop-name.invariant c.loop-name-test.true c.name-item.is c.in_ok-judge_length.ensures

pub returns-in_err-judge_length : goal.returns-in_err-judge_length
returns-in_err-judge_length c =
    let p = err_from_is_err_and c.from_residual.result c.from_residual.ensures.1 in
    rw (p.1, p.2) (long_here c.args.names.now c.loop-name.name-index c.name-item.result _ c.loop-name.invariant c.loop-name-test.true c.name-item.is c.in_err-judge_length.ensures)

pub returns : goal.returns
returns c = long_none c.args.names.now c.loop-name.name-index c.loop-name.invariant c.loop-name-test.false
