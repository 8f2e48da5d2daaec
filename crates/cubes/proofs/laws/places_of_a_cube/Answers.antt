use Rattle.cubes.specs.Laws.Held.{agrees_from_held, held_from_agrees, held_from_mask, mask_from_held}
use Rattle.cubes.proofs.laws.places_of_a_cube.Goals as goal

pub returns : goal.returns
returns c = record {
  places = λ d x. (agrees_from_held d x, held_from_agrees d x);
  mask = λ d x. (mask_from_held d x, held_from_mask d x);
}
