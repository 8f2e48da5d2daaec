use Rattle.std.proofs.Common.{refl}
use Rattle.cover_logic.proofs.Raising.{clear_where, met_where, needed_from_met}
use Rattle.cover_logic.proofs.wide_rows.dashed.Goals as goal

pub meets-requires : goal.meets-requires
meets-requires g c = g.met.O.Off.can_ask_wider c.args.off.now c.args.row c.with_dash-wider.result c.with_dash-wider.ensures.care c.requires.can

pub returns-then-wider-row-clause-looser : goal.returns-then-wider-row-clause-looser
returns-then-wider-row-clause-looser g c = record { literals = λ i l. (l, refl) }

pub returns-then-wider-row-clause-clear : goal.returns-then-wider-row-clause-clear
returns-then-wider-row-clause-clear g c = c.requires.clear

pub returns-then-meets_at-clause-looser : goal.returns-then-meets_at-clause-looser
returns-then-meets_at-clause-looser g c = record { literals = λ i l. (l, refl) }

pub returns-then-meets_at-clause-clear : goal.returns-then-meets_at-clause-clear
returns-then-meets_at-clause-clear g c = c.requires.clear

pub returns-then-meets_at-clause-needed : goal.returns-then-meets_at-clause-needed
returns-then-meets_at-clause-needed g c = λ l.
    needed_from_met (g.O.Off.terms c.args.off.now) c.args.row c.with_dash-wider.result c.args.column c.with_dash-wider.ensures.holds (c.meets_at.ensures c.if-meets_at.true)

pub returns-then-meets-clause-looser : goal.returns-then-meets-clause-looser
returns-then-meets-clause-looser g c = record { literals = λ i l. (l, refl) }

pub returns-then-meets-clause-clear : goal.returns-then-meets-clause-clear
returns-then-meets-clause-clear g c = c.requires.clear

pub returns-then-meets-clause-needed : goal.returns-then-meets-clause-needed
returns-then-meets-clause-needed g c = λ l.
    needed_from_met (g.O.Off.terms c.args.off.now) c.args.row c.with_dash-wider.result c.args.column c.with_dash-wider.ensures.holds
    (met_where (g.O.Off.terms c.args.off.now) c.with_dash-wider.result c.meets.result c.meets.ensures c.if-meets.true)

pub returns-else-meets-clause-looser : goal.returns-else-meets-clause-looser
returns-else-meets-clause-looser g c = c.with_dash-wider.ensures.looser

pub returns-else-meets-clause-clear : goal.returns-else-meets-clause-clear
returns-else-meets-clause-clear g c = clear_where (g.O.Off.terms c.args.off.now) c.with_dash-wider.result c.meets.result c.meets.ensures c.if-meets.false

pub returns-else-meets-clause-needed : goal.returns-else-meets-clause-needed
returns-else-meets-clause-needed g c = λ l. absurd (c.with_dash-wider.ensures.dash l)

pub returns-else-meets-clause-care : goal.returns-else-meets-clause-care
returns-else-meets-clause-care g c = c.with_dash-wider.ensures.care
