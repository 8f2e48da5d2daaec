use Rattle.cover_texts.proofs.covers.cover.Goals as goal

pub returns : goal.returns
returns c = c.cover_by.ensures c.args.text.now c.in_ok-blocks.ensures
