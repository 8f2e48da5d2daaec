-- What contracts see of a pair of partitions: its two lists of labels.
use Rattle.partition.specs.Sides.{Sides}
use Rattle.mm_lattice.specs.declared.worlds.MmPair.{MmPair}

abbrev pub sides_of : MmPair → Sides
sides_of pair = (pair.left, pair.right)
