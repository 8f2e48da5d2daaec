use Rattle.cubes.specs.Laws.Ends.{difference, meets_not_from_difference}
use Rattle.cubes.proofs.laws.apart_cubes_differ.Goals as goal

pub returns : goal.returns
returns c = record {
  differ = λ first second widths. (difference first second widths, meets_not_from_difference first second widths);
}
