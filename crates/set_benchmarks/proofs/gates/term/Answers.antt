-- the value lies inside care
use Rattle.std.proofs.Common.{bit_and, ap, ◌∙◌}
use Rattle.std.specs.Int.Bits.{and_self}
use Rattle.std.proofs.lemmas.Nat.{and_assoc}
use Rattle.set_benchmarks.proofs.gates.term.Goals as goal

pub invariant_of-result : goal.invariant_of-result
invariant_of-result c = record { inside = and_assoc c.args.care c.args.value c.args.care ∙ ap (bit_and c.args.value) (and_self c.args.care) }
