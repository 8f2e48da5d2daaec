use Rattle.cover_logic.proofs.Raising.{clear_where, grown_seed}
use Rattle.cover_logic.proofs.wide_rows.widened.Goals as goal

pub meets-requires : goal.meets-requires
meets-requires g c = g.met.O.Off.can_ask_wider c.args.off.now c.args.row c.joined-joined.result c.joined-joined.ensures.care c.requires.can

pub returns-then-meets : goal.returns-then-meets
returns-then-meets g c = grown_seed c.args.row (g.O.Off.terms c.args.off.now) c.requires.clear

pub returns-else-meets : goal.returns-else-meets
returns-else-meets g c = record {
  includes = c.joined-joined.ensures.left;
  clear = clear_where (g.O.Off.terms c.args.off.now) c.joined-joined.result c.meets.result c.meets.ensures c.if-meets.false;
  care = c.joined-joined.ensures.care;
}
