use Rattle.std.proofs.Common.{◌<◌, Bool, if◌then◌else◌, length, subst, sym, rules}
use Rattle.cover_logic.specs.declared.bundles.Plane.{Plane}
use Rattle.cover_logic.specs.Inner.Entries.{HasLiterals}
use Rattle.cover_logic.proofs.Planes.{literals_beyond}
use Rattle.cover_logic.proofs.bundles.Bundle.having.Goals as goal

pub returns-then-column-len : goal.returns-then-column-len
returns-then-column-len c =
    literals_beyond (length c.args.self.now.planes.items) c.args.column _ c.args.self.now.entries.items c.args.self.now.told.fits (search rules)

pub returns-then-one : goal.returns-then-one
returns-then-one c =
    let entries = c.args.self.now.entries.items in
    let plane = c.index-plane.result.now in
    let column = c.args.column in
    let below : column < length c.args.self.now.planes.items = search rules in
    subst (λ (b : Bool). HasLiterals column (if b then 1 else 0) entries plane.ones) (sym c.if-one.true)
    (subst (λ (p : Plane). HasLiterals column 1 entries p.ones) (sym c.index-plane.ensures) (c.args.self.now.told.by_column.ones column plane below))

pub returns : goal.returns
returns c =
    let entries = c.args.self.now.entries.items in
    let plane = c.index-plane.result.now in
    let column = c.args.column in
    let below : column < length c.args.self.now.planes.items = search rules in
    subst (λ (b : Bool). HasLiterals column (if b then 1 else 0) entries plane.zeros) (sym c.if-one.false)
    (subst (λ (p : Plane). HasLiterals column 0 entries p.zeros) (sym c.index-plane.ensures) (c.args.self.now.told.by_column.zeros column plane below))
