use Rattle.std.proofs.Common.{refl}
use Rattle.cubes.specs.Symbol.{number_of, symbol_of}
use Rattle.cubes.proofs.laws.worked_symbols.Goals as goal

pub returns : goal.returns
unfolding number_of symbol_of
returns c = record { number = refl; symbol = refl; high_bits_are_dropped = refl; lowest_bits = refl }
