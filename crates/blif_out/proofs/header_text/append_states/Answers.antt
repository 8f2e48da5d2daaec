use Rattle.std.proofs.Common.{arith}
use Rattle.std.specs.List.{zip}
use Rattle.std.proofs.lemmas.Slice.Zip.{length-zip}
use Rattle.std.proofs.lemmas.Option.{get_or_from_slice_get}
use Rattle.std.proofs.lemmas.Grind.{get_or_default_zero}
use Rattle.list_facts.specs.Laws.Appending.{all_items, zipped_more}
use Rattle.blif_out.specs.Inner.Pieces.{state_line}
use Rattle.blif_out.proofs.header_text.append_states.Goals as goal

pub loop-number-preserved : goal.loop-number-preserved
loop-number-preserved c =
    zipped_more (state_line c.args.bits) _ _ _ c.args.states.now c.args.words.now c.loop-number.number _ _ (omega (arith, c.requires.words, c.loop-number-test.true)) c.loop-number-test.true (get_or_from_slice_get c.args.states.now c.loop-number.number _ _ c.name.ensures) (get_or_default_zero c.args.words.now c.loop-number.number _ c.loop-number-test.true) c.loop-number.invariant c.in_ok-append_state.ensures

pub returns : goal.returns
returns c =
    all_items (state_line c.args.bits) _ _ (zip c.args.states.now c.args.words.now) c.loop-number.number (omega (arith, c.loop-number-test.false, length-zip c.args.states.now c.args.words.now)) c.loop-number.invariant
