use Rattle.std.proofs.Common.{◌∙◌, List, ap, map}
use Rattle.state_reduce.specs.Quotient.{row_of_blocks}
use Rattle.state_reduce.specs.Inner.BlockNames.{kept_of}
use Rattle.kiss_file.specs.declared.file.KissRow.{KissRow}
use Rattle.std.proofs.lemmas.List.{take_all}
use Rattle.state_reduce.proofs.block_machine.rows_of_blocks.Goals as goal

pub loop-row-init : goal.loop-row-init
loop-row-init c = c.new-rows.ensures

pub returns : goal.returns
returns c =
    c.loop-row.invariant
    ∙ ap (λ (rows : List KissRow). map (row_of_blocks c.args.file.now c.args.p.now) (kept_of c.args.p.now rows)) (take_all c.loop-row.row-index c.as_slice-row-items.result.now c.loop-row-test.false ∙ c.as_slice-row-items.ensures)
