use Rattle.std.proofs.Common.{[], ◌∙◌}
use Rattle.std.proofs.lemmas.List.{get_or_read}
use Rattle.cover_split.proofs.holders.holders_at.Goals as goal

pub returns : goal.returns
returns c = c.as_slice.ensures ∙ get_or_read c.args.lists.now c.args.s c.index-lists-s.result c.requires c.index-lists-s.is []
