use Rattle.std.proofs.Common.{rules}
use Rattle.std.proofs.lemmas.Nat.Bits.{bit_at_above}
use Rattle.pattern_bundles.proofs.Words.{none_above}
use Rattle.pattern_bundles.proofs.bundle.count_of_places.Goals as goal

pub returns-then-care-places-eq0-clause-none : goal.returns-then-care-places-eq0-clause-none
returns-then-care-places-eq0-clause-none c = λ place above. none_above c.args.care c.loop-places.places place c.if-care-places-eq0.true above

pub returns-clause-none : goal.returns-clause-none
returns-clause-none c = λ place above. bit_at_above c.args.care 64 place (search rules) above
