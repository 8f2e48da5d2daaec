use Rattle.std.proofs.Common.{refl}
use Rattle.state_rows.specs.Laws.Lists.{list_at}
use Rattle.state_rows.proofs.places.list_of.Goals as goal

pub returns : goal.returns
returns c = list_at c.args.lists.now c.args.s c.args.s c.index-lists-s.result c.as_slice.result.now c.requires refl c.index-lists-s.is c.as_slice.ensures
