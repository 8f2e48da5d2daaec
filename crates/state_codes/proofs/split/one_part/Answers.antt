use Rattle.std.proofs.Common.{◌≡◌, [], refl}
use Rattle.partition.specs.Partition.{zero_of}
use Rattle.partition.specs.Laws.Extremes.{zero_once, zero_of_is_zero, zero_of_is_partition}
use Rattle.state_codes.proofs.split.one_part.Goals as goal

pub returns-clause-parts : goal.returns-clause-parts
returns-clause-parts c =
    let zero : c.in_ok-zero.zero ≡ zero_of c.args.n = zero_once c.args.n c.in_ok-zero.zero (zero_of c.args.n) c.in_ok-zero.ensures.lawful (zero_of_is_partition c.args.n c.requires) c.in_ok-zero.ensures.zero (zero_of_is_zero c.args.n) in
    let none : c.new.result ≡ [] = c.new.ensures in
    rw (c.in_ok-push.ensures.ok, c.new-parts.ensures, c.in_ok-part.ensures, none, zero) refl
