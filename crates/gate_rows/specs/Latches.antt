-- Latches that start at the bits of a word.
use Rattle.std.specs.Prelude.{◌≡◌, ℕ, if◌then◌else◌, List, map}
use Rattle.cubes.specs.Symbol.{bit, lowest_bits}
use Rattle.net_core.specs.declared.Latch.{Latch}
use Rattle.net_core.specs.declared.SignalNames.{SignalNames}
use Rattle.net_core.specs.declared.Start.TheVariants.{Zero, One}
use Rattle.net_core.specs.Step.{AreStarts}
use Rattle.gate_rows.specs.Names.{name_at}

-- the latch of bit i
abbrev pub latch_of : SignalNames → ℕ → ℕ → Latch
latch_of names word i =
    record {
      input = name_at names.latch_inputs i;
      output = name_at names.latch_outputs i;
      start = if bit word i then One else Zero;
    }

-- the latches have the names, and start at the bits of the word
pub record AreLatches (names : SignalNames) (bits word : ℕ) (latches : List Latch) : Type 0 where
  pub inputs : map (λ latch. latch.input) latches ≡ names.latch_inputs
  pub outputs : map (λ latch. latch.output) latches ≡ names.latch_outputs
  pub starts : AreStarts latches (lowest_bits bits word)
