use Rattle.std.proofs.Common.{length, ◌≡◌, List, [], ◌∷◌, ◌++◌, refl}
use Rattle.state_codes.specs.declared.split.Part.{Part}
use Rattle.state_codes.specs.Laws.InnerLabels.{complement_apart}
use Rattle.feedback_split.specs.Inner.Parts.{part_reading}
use Rattle.feedback_split.proofs.feedback.two_parts.Goals as goal

-- two parts, pushed one after the other
two_pushed : (none some all : List Part) (one first other second : Part) → none ≡ [] → some ≡ none ++ one ∷ [] → all ≡ some ++ other ∷ [] → one ≡ first → other ≡ second → all ≡ first ∷ second ∷ []
two_pushed none some all one first other second empty pushed pushed_too is_first is_second = rw (pushed_too, pushed, empty, is_first, is_second) refl

pub carrier-requires-clause-in_zero : goal.carrier-requires-clause-in_zero
carrier-requires-clause-in_zero c s t inner held =
    complement_apart (length c.args.m.now.states) c.args.first c.in_ok-second.second c.requires c.in_ok-second.ensures.inside s t held inner

pub carrier-requires-2-clause-in_zero : goal.carrier-requires-2-clause-in_zero
carrier-requires-2-clause-in_zero c s t held inner =
    complement_apart (length c.args.m.now.states) c.args.first c.in_ok-second.second c.requires c.in_ok-second.ensures.inside s t held inner

pub returns : goal.returns
returns c = record {
  second = c.in_ok-second.second;
  complement = c.in_ok-second.ensures.inside;
  blocks = c.in_ok-second.ensures.blocks;
  first_carrier = c.in_ok-first_carrier.first_carrier;
  first_grown = c.in_ok-first_carrier.ensures.growth;
  first_greatest = c.in_ok-first_carrier.ensures.greatest;
  second_carrier = c.in_ok-second_carrier.second_carrier;
  second_grown = c.in_ok-second_carrier.ensures.growth;
  second_greatest = c.in_ok-second_carrier.ensures.greatest;
  two = two_pushed c.new-parts.result c.push.new.self c.push-2.new.self c.in_ok-part_reading.field-0 (part_reading c.args.first c.in_ok-first_carrier.first_carrier 1) c.in_ok-part_reading-2.field-0 (part_reading c.in_ok-second.second c.in_ok-second_carrier.second_carrier 0) c.new-parts.ensures c.in_ok-push.ensures.ok c.in_ok-push-2.ensures.ok c.in_ok-part_reading.ensures c.in_ok-part_reading-2.ensures;
}
