-- The least closed partitions of pairs of states that are kept from one call to the next.
use Rattle.std.specs.Prelude.{All, List}
use Rattle.kiss_file.specs.declared.file.KissFile.{KissFile}
use Rattle.closed_lattice.specs.declared.known_principals.Item.{Item}
use Rattle.closed_lattice.specs.ClosedPartitions.{IsPrincipal}

-- the partition is the least closed one of this machine that holds the two states beside it together
abbrev pub IsPrincipalItem : KissFile → Item → Type 0
IsPrincipalItem F item = IsPrincipal F item.s item.t item.least

-- all that are kept are least closed partitions of this machine
abbrev pub ArePrincipalsOf : KissFile → List Item → Type 0
ArePrincipalsOf F kept = All (IsPrincipalItem F) kept
