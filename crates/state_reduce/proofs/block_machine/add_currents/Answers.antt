use Rattle.std.proofs.Common.{◌∙◌, ap, sym, take}
use Rattle.kiss2.specs.Standing.{each_once}
use Rattle.state_reduce.specs.Inner.BlockNames.{currents_of}
use Rattle.state_reduce.specs.Quotient.{block_name}
use Rattle.state_reduce.proofs.Names.{currents_none, currents_one, few_currents, put_more}
use Rattle.state_reduce.proofs.block_machine.add_currents.Goals as goal
use Rattle.state_reduce.proofs.block_machine.add_currents.Goals.{then-is_kept+in_ok-add_block, else-is_kept}

pub loop-row-init : goal.loop-row-init
unfolding each_once
loop-row-init c = c.requires.empty

pub add_block-requires-clause-few : goal.add_block-requires-clause-few
add_block-requires-clause-few c =
    few_currents c.args.file.now c.args.p.now c.requires.table c.as_slice-row-items.result.now c.loop-row.row-index c.loop-row.states c.as_slice-row-items.ensures c.loop-row.invariant

pub loop-row-preserved : goal.loop-row-preserved
loop-row-preserved c =
    let F = c.args.file.now in
    let p = c.args.p.now in
    let rows = c.as_slice-row-items.result.now in
    let i = c.loop-row.row-index in
    let row = c.row-item.result in
    elim c.if-is_kept.branch [
      | then-is_kept+in_ok-add_block w ↦
          w.states-is ∙ put_more (currents_of F p (take i rows)) (block_name F p row.from) c.loop-row.states w.add_block.new.states c.loop-row.invariant
          w.in_ok-add_block.ensures.known w.in_ok-add_block.ensures.last
          ∙ ap each_once (sym (currents_one F p rows i row c.loop-row-test.true c.row-item.is (sym c.is_kept.ensures ∙ w.if-is_kept.true)))
      | else-is_kept w ↦
          w.states-is ∙ c.loop-row.invariant ∙ ap each_once (sym (currents_none F p rows i row c.loop-row-test.true c.row-item.is (sym c.is_kept.ensures ∙ w.if-is_kept.false)))
    ]
