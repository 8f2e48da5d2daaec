use Rattle.std.proofs.Common.{◌∙◌, ℕ, List, not, ap, subst}
use Rattle.cover_terms.specs.Charts.{IsFound}
use Rattle.cover_logic.proofs.Tables.{all_held}
use Rattle.cover_logic.proofs.table.Table.holds.Goals as goal

pub returns : goal.returns
returns c =
    let table = c.args.self.now in
    let found : IsFound table.width c.args.row 0 table.marks.items c.find.result =
    subst (λ (ns : List ℕ). IsFound table.width c.args.row 0 ns c.find.result) c.deref.ensures.value c.find.ensures in
    λ h. all_held table.width table.terms.items table.marks.items c.args.row c.find.result c.requires.table.told c.requires.fits found (c.is_none.ensures ∙ ap not h)

pub find-requires-clause-few : goal.find-requires-clause-few
find-requires-clause-few c = c.requires.table.few

pub find-requires-clause-fits : goal.find-requires-clause-fits
find-requires-clause-fits c = c.requires.fits
