use Rattle.mm_lattice.specs.Laws.{same_right}
use Rattle.mm_lattice.proofs.Generating.{fit_made, made_fits}
use Rattle.mm_lattice.proofs.laws.mm_pairs_are_joins.Goals as goal

pub returns-clause-decided : goal.returns-clause-decided
returns-clause-decided c F x y left right same = same_right F x y left.high right.high same

pub returns-clause-pairs : goal.returns-clause-pairs
returns-clause-pairs c F generators x fit made = made_fits F generators x fit made

pub returns-clause-joins : goal.returns-clause-joins
returns-clause-joins c F generators x fit have joins is = fit_made F generators fit have x is joins
