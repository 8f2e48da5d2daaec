use Rattle.std.proofs.Common.{ℕ, Bool, List, sym, subst}
use Rattle.cover_terms.specs.Charts.{IsFound}
use Rattle.cover_logic.specs.Inner.Rows.{IsMetOrClear}
use Rattle.cover_logic.proofs.Tables.{met_or_clear}
use Rattle.cover_logic.proofs.table.Table.shares_value.Goals as goal

pub returns : goal.returns
returns c =
    let table = c.args.self.now in
    let found : IsFound table.width c.args.row 1 table.marks.items c.find.result =
    subst (λ (ns : List ℕ). IsFound table.width c.args.row 1 ns c.find.result) c.deref.ensures.value c.find.ensures in
    subst (λ (b : Bool). IsMetOrClear table.terms.items c.args.row b) (sym c.is_some.ensures)
    (met_or_clear table.width table.terms.items table.marks.items c.args.row c.find.result c.requires.table.told c.requires.fits found)

pub find-requires-clause-few : goal.find-requires-clause-few
find-requires-clause-few c = c.requires.table.few

pub find-requires-clause-fits : goal.find-requires-clause-fits
find-requires-clause-fits c = c.requires.fits
