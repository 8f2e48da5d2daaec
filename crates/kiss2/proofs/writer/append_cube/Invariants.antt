use Rattle.std.proofs.Common.{◌≡◌, ◌≤◌, ◌++◌, map}
use Rattle.cubes.specs.Cube.{text_of}
use Rattle.cubes.specs.Field.{byte_of, characters}
use Rattle.kiss2.proofs.writer.append_cube.Given as goal

abbrev pub invariant-loop-place : goal.invariant-loop-place
invariant-loop-place l =
    (l.place ≤ 32) × (l.text.items ++ map byte_of (characters l.place l.cube.care l.cube.value) ≡ l.initial.text.items ++ text_of l.cube)

abbrev pub decreases-loop-place : goal.decreases-loop-place
decreases-loop-place l = l.place
