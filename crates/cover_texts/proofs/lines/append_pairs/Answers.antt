use Rattle.std.proofs.Common.{arith}
use Rattle.std.specs.List.{zip}
use Rattle.std.proofs.lemmas.List.{get_or_default}
use Rattle.std.proofs.lemmas.Slice.Zip.{length-zip}
use Rattle.std.proofs.lemmas.Grind.{get_or_default_zero}
use Rattle.list_facts.specs.Laws.Appending.{all_items}
use Rattle.cover_texts.specs.Inner.Pieces.{pair_line}
use Rattle.cover_texts.proofs.Appending.{pairs_more}
use Rattle.cover_texts.proofs.lines.append_pairs.Goals as goal

pub loop-i-preserved : goal.loop-i-preserved
loop-i-preserved c =
    pairs_more (pair_line c.args.states.now c.args.bits) _ _ _ c.args.pairs.now c.args.words.now c.loop-i.i _ _ (omega (arith, c.requires.words, c.loop-i-test.true)) c.loop-i-test.true
    (get_or_default c.args.pairs.now c.loop-i.i _ _ (omega (arith, c.requires.words, c.loop-i-test.true))) (get_or_default_zero c.args.words.now c.loop-i.i _ c.loop-i-test.true) c.loop-i.invariant c.in_ok-append_pair.ensures

pub returns : goal.returns
returns c =
    all_items (pair_line c.args.states.now c.args.bits) _ _ (zip c.args.pairs.now c.args.words.now) c.loop-i.i (omega (arith, c.loop-i-test.false, c.requires.words, length-zip c.args.pairs.now c.args.words.now)) c.loop-i.invariant
