use Rattle.std.proofs.Common.{◌∙◌}
use Rattle.std.proofs.Math.Nat.{mod-eq_of_lt}
use Rattle.cubes.specs.Laws.Numbers.{length-symbol_of, number_below, number_of-symbol_of, symbol_of-number_of}
use Rattle.cubes.proofs.laws.symbols_are_numbers.Goals as goal

pub returns : goal.returns
returns c = record {
  number = λ places x lt. number_of-symbol_of places x ∙ mod-eq_of_lt lt;
  places = length-symbol_of;
  symbol = symbol_of-number_of;
  below = number_below;
}
