use Rattle.std.proofs.Common.{◌≡◌, All}
use Rattle.texts_cases.proofs.cubes_and_gaps.add_cubes.Given as goal

abbrev pub invariant-loop-field : goal.invariant-loop-field
invariant-loop-field l = All (λ cube. cube.width ≡ l.width) l.cubes.items
