use Rattle.std.proofs.Common.{◌<◌, length, subst, arith}
use Rattle.kiss2.specs.Laws.Finding.{long_first, none_long}
use Rattle.kiss2.proofs.line_operands.judge_lengths.Goals as goal

pub returns-then-found-gt64 : goal.returns-then-found-gt64
returns-then-found-gt64 c =
    let name = c.name-item.result in
    let long : 64 < length name = subst (λ n. 64 < length n) c.bytes-found.ensures c.if-found-gt64.true in
    rw c.bytes-found.ensures (long_first c.args.names.now c.loop-name.name-index name c.loop-name-test.true c.loop-name.invariant c.name-item.is long)

pub returns : goal.returns
returns c = none_long c.args.names.now (λ k lt. c.loop-name.invariant k (omega arith))
