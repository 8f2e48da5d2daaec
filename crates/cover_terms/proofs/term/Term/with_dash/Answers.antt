use Rattle.std.proofs.Common.{refl, rules}
use Rattle.std.proofs.lemmas.Nat.{and_le_l}
use Rattle.cover_terms.specs.Laws.Terms.{and_both, dashed_column, dashed_holds, dashed_looser}
use Rattle.cover_terms.proofs.term.Term.with_dash.Goals as goal

pub invariant_of-result : goal.invariant_of-result
invariant_of-result c = record { inside = and_both c.args.self _ }

pub returns-clause-holds : goal.returns-clause-holds
returns-clause-holds c = dashed_holds c.args.self c.args.column _ (record { column = c.requires; fits = search rules; care = refl; value = refl })

pub returns-clause-looser : goal.returns-clause-looser
returns-clause-looser c = dashed_looser c.args.self c.args.column _ (record { column = c.requires; fits = search rules; care = refl; value = refl })

pub returns-clause-dash : goal.returns-clause-dash
returns-clause-dash c = dashed_column c.args.self.care c.args.column c.requires

pub returns-clause-care : goal.returns-clause-care
returns-clause-care c = and_le_l c.args.self.care _
