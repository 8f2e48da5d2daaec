-- What a row says of a bit.
use Rattle.std.specs.Prelude.{ℕ, Bool, List, Option, slice_index}
use Rattle.std.specs.Option.{option_map}
use Rattle.cubes.specs.Symbol.{bit}
use Rattle.kiss_file.specs.Machine.{given_bit}
use Rattle.kiss_file.specs.declared.file.KissRow.{KissRow}
use Rattle.dependence.specs.declared.bit.Bit.{Bit}
use Rattle.dependence.specs.declared.bit.Bit.TheVariants.{Latch, Output}

-- the bit of the word of the next state that a row names, if it names one
abbrev pub next_bit : List ℕ → ℕ → KissRow → Option Bool
next_bit words i row = option_map (λ t. bit (slice_index words t) i) row.to

-- what the gate of a bit gives at each symbol of a row, if the row says it
abbrev pub row_value : List ℕ → Bit → KissRow → Option Bool
row_value words (Latch i) row = next_bit words i row
row_value words (Output b) row = given_bit b row
