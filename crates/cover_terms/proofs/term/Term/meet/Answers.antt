use Rattle.std.proofs.Common.{refl, sym, ◌∙◌}
use Rattle.cover_terms.specs.Laws.Terms.{overlaid_holds, overlaid_inside}
use Rattle.cover_terms.proofs.term.Term.meet.Goals as goal

pub invariant_of-result : goal.invariant_of-result
invariant_of-result c = record { inside = overlaid_inside c.args.self c.args.other }

pub returns-then-touches : goal.returns-then-touches
returns-then-touches c = overlaid_holds c.args.self c.args.other _ (record { agreed = sym c.touches.ensures.test ∙ c.if-touches.true; care = refl; value = refl })
