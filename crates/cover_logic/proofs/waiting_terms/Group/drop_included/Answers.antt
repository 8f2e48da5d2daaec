use Rattle.std.proofs.Common.{refl, rules}
use Rattle.std.proofs.Math.Nat.{lt_of_le_of_lt}
use Rattle.std.proofs.lemmas.Nat.{and_le_l}
use Rattle.cover_logic.proofs.Groups.{dropped}
use Rattle.cover_logic.proofs.waiting_terms.Group.drop_included.Goals as goal

pub returns : goal.returns
returns c = λ row all.
    dropped row c.args.self.now _ c.within-within.result refl refl (search rules) c.args.self.now.bundle.told.by_column.few (c.within-within.ensures row all)

pub invariant_of-self : goal.invariant_of-self
invariant_of-self c = record { among = lt_of_le_of_lt (and_le_l c.args.self.now.live _) c.args.self.now.among }
