use Rattle.std.proofs.Common.{◌<◌, [], All, get_or, length, subst, ap, refl, arith}
use Rattle.std.proofs.lemmas.List.{get_or_read, take_all}
use Rattle.std.proofs.lemmas.List.Elements.{All-more}
use Rattle.cover_split.proofs.text.have_one_state.Goals as goal

pub loop-block-preserved : goal.loop-block-preserved
loop-block-preserved c =
    let blocks = c.args.blocks.now in
    let i = c.loop-block.block-index in
    let here : length (get_or blocks i []) < 2 =
    omega (arith, c.if-as_slice-ge2.false, ap length c.as_slice.ensures, ap length (get_or_read blocks i c.block-item.result c.loop-block-test.true c.block-item.is [])) in
    All-more (λ block. length block < 2) blocks i [] c.loop-block-test.true c.loop-block.invariant here

pub returns : goal.returns
returns c = (
  λ _. subst (All (λ block. length block < 2)) (take_all c.loop-block.block-index c.args.blocks.now c.loop-block-test.false) c.loop-block.invariant,
  λ _. refl,
)
