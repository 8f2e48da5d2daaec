use Rattle.std.proofs.Common.{[], get_or, arith}
use Rattle.std.proofs.lemmas.List.{get_or_default}
use Rattle.list_facts.specs.Laws.Appending.{all_numbered, numbered_more}
use Rattle.machine_reports.specs.OutputTexts.{output_line}
use Rattle.machine_reports.proofs.output_lines.output_lines.Goals as goal

pub loop-number-preserved : goal.loop-number-preserved
loop-number-preserved c =
    numbered_more (output_line c.args.bits) [] _ _ c.args.outs.now c.loop-number.number (get_or c.args.outs.now c.loop-number.number 0) c.loop-number-test.true
    (get_or_default c.args.outs.now c.loop-number.number _ 0 c.loop-number-test.true) c.loop-number.invariant c.in_ok-append_line.ensures

pub returns : goal.returns
returns c = all_numbered (output_line c.args.bits) [] _ c.args.outs.now c.loop-number.number (omega arith) c.loop-number.invariant
