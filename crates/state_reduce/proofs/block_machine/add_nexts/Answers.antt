use Rattle.std.proofs.Common.{◌∙◌, ◌++◌, ℕ, List, append_assoc, ap, sym, take}
use Rattle.kiss2.specs.Standing.{each_once}
use Rattle.state_reduce.specs.Inner.BlockNames.{currents_of, nexts_of}
use Rattle.state_reduce.specs.Quotient.{block_name}
use Rattle.state_reduce.proofs.Names.{few_nexts, nexts_one, nexts_open, put_more}
use Rattle.state_reduce.proofs.block_machine.add_nexts.Goals as goal
use Rattle.state_reduce.proofs.block_machine.add_nexts.Goals.{in-Some+in_ok-add_block, in_default}

pub add_block-requires-clause-few : goal.add_block-requires-clause-few
add_block-requires-clause-few c =
    few_nexts c.args.file.now c.args.p.now c.requires.table c.as_slice-row-items.result.now c.loop-row.row-index c.loop-row.states c.as_slice-row-items.ensures c.loop-row.invariant

pub loop-row-preserved : goal.loop-row-preserved
loop-row-preserved c =
    let F = c.args.file.now in
    let p = c.args.p.now in
    let rows = c.as_slice-row-items.result.now in
    let i = c.loop-row.row-index in
    let row = c.row-item.result in
    let before = currents_of F p F.rows in
    elim c.match-row.branch [
      | in-Some+in_ok-add_block w ↦
          w.states-is ∙ put_more (before ++ nexts_of F p (take i rows)) (block_name F p w.in-Some.t) c.loop-row.states w.add_block.new.states c.loop-row.invariant
          w.in_ok-add_block.ensures.known w.in_ok-add_block.ensures.last
          ∙ ap each_once (append_assoc before (nexts_of F p (take i rows)) _)
          ∙ ap (λ (names : List (List ℕ)). each_once (before ++ names)) (sym (nexts_one F p rows i row w.in-Some.t c.loop-row-test.true c.row-item.is (sym c.is_kept.ensures ∙ c.if-not-is_kept.false) w.in-Some.is))
      | in_default w ↦
          w.states-is ∙ c.loop-row.invariant
          ∙ ap (λ (names : List (List ℕ)). each_once (before ++ names)) (sym (nexts_open F p rows i row c.loop-row-test.true c.row-item.is (sym c.is_kept.ensures ∙ c.if-not-is_kept.false) w.in_default.is))
    ]
