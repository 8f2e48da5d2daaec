-- What contracts see of a pair of partitions: its two lists of labels.
use Rattle.partition.specs.Sides.{Sides}
use Rattle.io_pairs.specs.declared.worlds.IoPair.{IoPair}

abbrev pub sides_of : IoPair → Sides
sides_of pair = (pair.left, pair.right)
