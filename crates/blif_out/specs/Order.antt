-- What is asked of a network that is written, besides what its text needs to denote it.
use Rattle.std.specs.Prelude.{◌≡◌, ◌⊎◌}
use Rattle.std.specs.Ordering.{nat_cmp}
use Rattle.std.specs.Cmp.Lexicographic.{slice_cmp}
use Rattle.std.specs.List.{AllByRecursion}
use Rattle.std.specs.List.Sorted.{IsSorted}
use Rattle.net_core.specs.declared.Network.{Network}
use Rattle.net_core.specs.declared.Start.TheVariants.{Zero, One}

-- each latch starts at 0 or at 1
abbrev pub HasKnownStarts : Network → Type 0
HasKnownStarts N = AllByRecursion (λ latch. (latch.start ≡ Zero) ⊎ (latch.start ≡ One)) N.latches

-- the rows of each gate are in ascending order of their bytes
abbrev pub HasRowsInOrder : Network → Type 0
HasRowsInOrder N = AllByRecursion (λ gate. IsSorted (slice_cmp nat_cmp) gate.rows) N.gates
