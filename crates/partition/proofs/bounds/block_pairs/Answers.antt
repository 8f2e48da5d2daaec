use Rattle.std.proofs.Common.{◌≡◌, arith}
use Rattle.partition.specs.Partition.{blocks_of}
use Rattle.partition.proofs.Pairs.{pair_lt, pairs_few}
use Rattle.partition.proofs.bounds.block_pairs.Goals as goal

pub overflow_mul-pair : goal.overflow_mul-pair
overflow_mul-pair c =
    let width : c.args.width ≡ blocks_of c.args.q.now = c.requires.width in
    rw width (omega (arith, pair_lt c.args.p.now c.args.q.now c.loop-s.s (omega arith) (omega arith), pairs_few _ c.args.p.now c.args.q.now c.requires.p c.requires.q))

pub overflow_add-pair : goal.overflow_add-pair
overflow_add-pair c =
    let width : c.args.width ≡ blocks_of c.args.q.now = c.requires.width in
    rw width (omega (arith, pair_lt c.args.p.now c.args.q.now c.loop-s.s (omega arith) (omega arith), pairs_few _ c.args.p.now c.args.q.now c.requires.p c.requires.q))

pub overflow_cast-pair-in-loop-s-2 : goal.overflow_cast-pair-in-loop-s-2
overflow_cast-pair-in-loop-s-2 c =
    let width : c.args.width ≡ blocks_of c.args.q.now = c.requires.width in
    rw width (omega (arith, pair_lt c.args.p.now c.args.q.now c.loop-s.s (omega arith) (omega arith), pairs_few _ c.args.p.now c.args.q.now c.requires.p c.requires.q))
