use Rattle.std.proofs.Common.{◌<◌, length, get_or, ap, ◌∙◌, arith}
use Rattle.partition.specs.Laws.Labels.{blocks_of-le, label-lt-blocks_of}
use Rattle.partition.proofs.Merging.{tied_is_join}
use Rattle.partition.specs.Laws.Outcomes.{IfOk-from_both}
use Rattle.partition.proofs.bounds.join_of.Goals as goal

pub own_numbers-requires : goal.own_numbers-requires
own_numbers-requires c = omega (arith, blocks_of-le c.args.p.now c.requires.p.numbered)

pub values_at-requires : goal.values_at-requires
values_at-requires c s within =
    omega (arith, label-lt-blocks_of c.args.p.now s within, c.tie_blocks.ensures.size)

pub numbered-requires-clause-bounded : goal.numbered-requires-clause-bounded
numbered-requires-clause-bounded c s within =
    let is = c.as_slice.ensures.value in
    let in_p : s < length c.args.p.now = omega (arith, ap length is, c.in_ok-values.ensures.length) in
    rw (is, c.in_ok-values.ensures.values s in_p, c.requires.blocks) (c.tie_blocks.ensures.small (get_or c.args.p.now s 0) (label-lt-blocks_of c.args.p.now s in_p))

pub returns : goal.returns
returns c =
    let is = c.as_slice.ensures.value in
    IfOk-from_both c.numbered.result c.numbered.ensures.lawful c.numbered.ensures.together (λ r lawful same.
    tied_is_join c.args.p.now c.args.q.now c.tie_blocks.new.numbers c.as_slice.result.now r c.requires.q.length c.tie_blocks.ensures (ap length is ∙ c.in_ok-values.ensures.length) (λ s within. rw is (c.in_ok-values.ensures.values s within)) lawful same)
