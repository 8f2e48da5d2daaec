use Rattle.part_machines.proofs.Listing.{listed_are_cells}
use Rattle.part_machines.proofs.laws.listed_are_cells.Goals as goal

pub returns : goal.returns
returns c = listed_are_cells
