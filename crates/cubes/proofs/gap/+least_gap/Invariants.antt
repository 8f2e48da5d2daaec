use Rattle.cubes.proofs.gap.+least_gap.Given as goal

abbrev pub decreases-least_gap : goal.decreases-least_gap
decreases-least_gap l = l.places
