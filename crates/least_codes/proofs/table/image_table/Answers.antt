use Rattle.std.proofs.Common.{◌+◌, List, length, subst, sym, take, refl}
use Rattle.least_codes.specs.declared.two_states.TwoStates.{TwoStates}
use Rattle.least_codes.specs.Inner.StatePairs.{ArePairs}
use Rattle.least_codes.specs.Inner.Table.{IsTableOf}
use Rattle.least_codes.proofs.Rows.{row_of, table_all, table_more}
use Rattle.least_codes.proofs.table.image_table.Goals as goal

pub loop-pair-preserved : goal.loop-pair-preserved
loop-pair-preserved c =
    let pairs : ArePairs c.deref-pair-items.result.now (length c.args.m.now.states) =
    subst (λ (list : List TwoStates). ArePairs list (length c.args.m.now.states)) (sym c.deref-pair-items.ensures.value) (subst (ArePairs c.in_ok-pairs.pairs.items) c.states.ensures.count c.in_ok-pairs.ensures) in
    subst (IsTableOf c.args.m.now (take (c.loop-pair.pair-index + 1) c.deref-pair-items.result.now)) (sym c.in_ok-push.ensures.items)
    (table_more c.args.m.now c.deref-pair-items.result.now c.loop-pair.table.items c.loop-pair.pair-index _ _ c.loop-pair-test.true c.loop-pair.invariant refl
    (row_of c.args.m.now _ c.keeps_its_states.ensures.next (pairs.lawful c.loop-pair.pair-index _ c.loop-pair-test.true) c.in_ok-images.ensures.listed))

pub returns : goal.returns
returns c =
    table_all c.args.m.now c.deref-pair-items.result.now c.loop-pair.table.items c.loop-pair.pair-index c.loop-pair-test.false
    (subst (λ (list : List TwoStates). ArePairs list (length c.args.m.now.states)) (sym c.deref-pair-items.ensures.value) (subst (ArePairs c.in_ok-pairs.pairs.items) c.states.ensures.count c.in_ok-pairs.ensures))
    c.loop-pair.invariant
