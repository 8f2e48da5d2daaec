use Rattle.cubes.specs.Laws.Parts.{both_from_each, first_from_both, second_from_both, whole_from_half, half_from_whole}
use Rattle.cubes.proofs.laws.parts_of_cubes.Goals as goal

pub returns-clause-both : goal.returns-clause-both
returns-clause-both c =
    λ d e both is meets x. (λ h. (first_from_both d e both is meets x h, second_from_both d e both is meets x h), both_from_each d e both is meets x)

pub returns-clause-half : goal.returns-clause-half
returns-clause-half c = λ d half place b is x. (whole_from_half d half place b is x, half_from_whole d half place b is x)
