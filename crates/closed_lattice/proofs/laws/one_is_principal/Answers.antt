use Rattle.closed_lattice.specs.Laws.Generating.{principals_are_one}
use Rattle.closed_lattice.proofs.laws.one_is_principal.Goals as goal

pub returns : goal.returns
returns c F s t p q one other = principals_are_one F s t p q one other
