use Rattle.io_pairs.specs.Inputs.{IsInMmPair}
use Rattle.partition.specs.Sides.{RightBefore}
use Rattle.io_pairs.specs.Sides.{sides_of}
use Rattle.machine_cases.proofs.Listed.{whole_has}
use Rattle.machine_cases.proofs.pairs.put_in_input_world.Goals as goal

pub put_in_listing-requires-clause-listing : goal.put_in_listing-requires-clause-listing
put_in_listing-requires-clause-listing c =
    whole_has RightBefore (IsInMmPair c.args.m.now) sides_of c.in-Ok.listing c.in-Ok.ensures.whole
