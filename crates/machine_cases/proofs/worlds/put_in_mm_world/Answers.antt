use Rattle.mm_lattice.specs.MmPairs.{IsMmPair}
use Rattle.partition.specs.Sides.{RightBefore}
use Rattle.mm_lattice.specs.Sides.{sides_of}
use Rattle.machine_cases.proofs.Listed.{whole_has}
use Rattle.machine_cases.proofs.worlds.put_in_mm_world.Goals as goal

pub put_in_listing-requires-clause-listing : goal.put_in_listing-requires-clause-listing
put_in_listing-requires-clause-listing c =
    whole_has RightBefore (IsMmPair c.args.m.now) sides_of c.in-Ok.listing c.in-Ok.ensures.whole
