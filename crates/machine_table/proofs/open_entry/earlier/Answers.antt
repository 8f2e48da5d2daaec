use Rattle.std.proofs.Common.{subst}
use Rattle.machine_table.specs.OpenEntries.{place_of}
use Rattle.machine_table.specs.Inner.OpenSymbol.{IsFirstAmong, IsFirstOf}
use Rattle.machine_table.proofs.OpenParts.{with_earlier, with_first, with_later, with_none}
use Rattle.machine_table.proofs.open_entry.earlier.Goals as goal

pub returns-in_default : goal.returns-in_default
returns-in_default c F s known gap =
    with_none F s c.args.part c.args.first known (subst (IsFirstOf F s c.args.part) c.in_default.is gap)

pub returns-in-Some-first : goal.returns-in-Some-first
returns-in-Some-first c F s known gap =
    with_later F s c.args.part c.in-Some-first.symbol c.in-Some-first.kept c.in-Some.other
    (subst (IsFirstAmong F s (place_of c.args.part)) c.in-Some-first.is known) (subst (IsFirstOf F s c.args.part) c.in-Some.is gap) c.if-symbol-other.true

pub returns-in_default-first : goal.returns-in_default-first
returns-in_default-first c F s known gap =
    with_earlier F s c.args.part c.in-Some-first.symbol c.in-Some-first.kept c.in-Some.other
    (subst (IsFirstAmong F s (place_of c.args.part)) c.in-Some-first.is known) (subst (IsFirstOf F s c.args.part) c.in-Some.is gap) c.if-symbol-other.false

pub returns-in_default-first-2 : goal.returns-in_default-first-2
returns-in_default-first-2 c F s known gap =
    with_first F s c.args.part c.in-Some.other
    (subst (IsFirstAmong F s (place_of c.args.part)) c.in_default-first.is known) (subst (IsFirstOf F s c.args.part) c.in-Some.is gap)
