use Rattle.std.proofs.Common.{arith, sym}
use Rattle.list_facts.specs.Laws.Appending.{all_numbered, numbered_more}
use Rattle.blif_out.specs.Inner.Pieces.{note_line}
use Rattle.blif_out.proofs.header_text.append_notes.Goals as goal

pub loop-number-preserved : goal.loop-number-preserved
loop-number-preserved c =
    numbered_more note_line _ _ _ c.args.latches.now c.loop-number.number _ c.loop-number-test.true (sym c.index-latches-number.is) c.loop-number.invariant c.in_ok-append_note.ensures

pub returns : goal.returns
returns c = all_numbered note_line _ _ c.args.latches.now c.loop-number.number (omega arith) c.loop-number.invariant
