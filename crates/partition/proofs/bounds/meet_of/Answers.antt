use Rattle.std.proofs.Common.{◌<◌, length, ap, ◌∙◌, arith}
use Rattle.partition.proofs.Pairs.{pair_lt, pairs_few, pairs_are_meet}
use Rattle.partition.specs.Laws.Outcomes.{IfOk-from_both}
use Rattle.partition.proofs.bounds.meet_of.Goals as goal

pub overflow_mul-height : goal.overflow_mul-height
overflow_mul-height c =
    rw (c.requires.height, c.requires.width) (omega (arith, pairs_few _ c.args.p.now c.args.q.now c.requires.p c.requires.q))

pub numbered-requires-clause-bounded : goal.numbered-requires-clause-bounded
numbered-requires-clause-bounded c s within =
    let is = c.as_slice.ensures.value in
    let in_p : s < length c.args.p.now = omega (arith, ap length is, c.in_ok-values.ensures.length) in
    rw (is, c.in_ok-values.ensures.values s in_p, c.requires.height, c.requires.width) (pair_lt c.args.p.now c.args.q.now s in_p (omega (arith, c.requires.q.length)))

pub returns : goal.returns
returns c =
    let is = c.as_slice.ensures.value in
    IfOk-from_both c.numbered.result c.numbered.ensures.lawful c.numbered.ensures.together (λ r lawful same.
    pairs_are_meet c.args.p.now c.args.q.now c.as_slice.result.now r c.requires.p c.requires.q (ap length is ∙ c.in_ok-values.ensures.length) (λ s within. rw (is, ← c.requires.width) (c.in_ok-values.ensures.values s within)) lawful same)
