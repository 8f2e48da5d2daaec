-- Two states at all symbols, each symbol given by its number.
pub use Rattle.state_pairs.specs.Pairs.{AgreeAt, AgreeInBit, AtEachSymbol, GoInto, HaveOneBit, IsFirstWithout}
