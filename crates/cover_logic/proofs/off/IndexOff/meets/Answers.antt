use Rattle.std.proofs.Common.{Bool, sym, subst}
use Rattle.cover_logic.specs.Inner.Index.{terms_of}
use Rattle.cover_logic.specs.Inner.Rows.{IsMetOrClear}
use Rattle.cover_logic.proofs.Raising.{met_or_none}
use Rattle.cover_logic.proofs.off.IndexOff.meets.Goals as goal

pub returns : goal.returns
returns c =
    subst (λ (b : Bool). IsMetOrClear (terms_of c.args.self.now) c.args.row b) (sym c.is_some.ensures)
    (met_or_none (terms_of c.args.self.now) c.args.row c.met_by.result c.met_by.ensures)
