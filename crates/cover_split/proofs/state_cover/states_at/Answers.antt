use Rattle.std.proofs.Common.{[], ◌∙◌}
use Rattle.std.proofs.lemmas.List.{get_or_read}
use Rattle.cover_split.proofs.state_cover.states_at.Goals as goal

pub returns : goal.returns
returns c = c.as_slice.ensures ∙ get_or_read c.args.blocks.now c.args.j c.index-blocks-j.result c.requires c.index-blocks-j.is []
