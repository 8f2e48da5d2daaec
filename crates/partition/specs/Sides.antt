-- Pairs of partitions, in the order of their right sides.
use Rattle.std.specs.Prelude.{ℕ, List}
use Rattle.partition.specs.Order.{Before}

-- the left side and the right side
abbrev pub Sides : Type 0
Sides = List ℕ × List ℕ

-- the right side of the first comes before that of the second
abbrev pub RightBefore : Sides → Sides → Type 0
RightBefore x y = Before x.1 y.1
