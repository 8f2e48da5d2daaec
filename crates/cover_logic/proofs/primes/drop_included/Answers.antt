use Rattle.std.proofs.Common.{not, rules}
use Rattle.cover_terms.specs.Pair.{refines}
use Rattle.cover_terms.specs.Laws.Lists.{filter_from_steady_retain}
use Rattle.cover_logic.proofs.primes.drop_included.Goals as goal

pub returns-clause-kept : goal.returns-clause-kept
returns-clause-kept c =
    filter_from_steady_retain _ (λ t. not (refines c.args.row t)) _ (λ x b g h. search rules) _ _ c.retain.ensures.filtered
