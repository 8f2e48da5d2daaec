use Rattle.std.proofs.Common.{ℕ, Option, sym, subst}
use Rattle.state_pairs.specs.AddedPairs.{AddsPairs, IsFound}
use Rattle.state_pairs.proofs.named_pairs.add_found.Goals as goal

pub add-requires-clause-first : goal.add-requires-clause-first
add-requires-clause-first c = (c.requires c.in-Some.pair.0 c.in-Some.pair.1 c.in-Some.is).0

pub add-requires-clause-second : goal.add-requires-clause-second
add-requires-clause-second c = (c.requires c.in-Some.pair.0 c.in-Some.pair.1 c.in-Some.is).1

pub returns-in_ok-add-clause-pairs : goal.returns-in_ok-add-clause-pairs
returns-in_ok-add-clause-pairs c =
    subst (λ (o : Option (ℕ × ℕ)). AddsPairs (IsFound o) c.args.pairs.now.pairs c.add.new.self.pairs) (sym c.in-Some.is) c.in_ok-add.ensures.pairs
