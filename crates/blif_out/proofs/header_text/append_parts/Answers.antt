use Rattle.std.proofs.Common.{arith, sym}
use Rattle.list_facts.specs.Laws.Appending.{all_numbered, numbered_more}
use Rattle.blif_out.specs.Inner.Pieces.{part_line}
use Rattle.blif_out.proofs.header_text.append_parts.Goals as goal

pub loop-number-preserved : goal.loop-number-preserved
loop-number-preserved c =
    numbered_more part_line _ _ _ c.args.parts.now c.loop-number.number _ c.loop-number-test.true (sym c.index-parts-number.is) c.loop-number.invariant c.in_ok-append_part.ensures

pub returns : goal.returns
returns c = all_numbered part_line _ _ c.args.parts.now c.loop-number.number (omega arith) c.loop-number.invariant
