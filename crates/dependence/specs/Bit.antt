-- Bits that a network computes, and what each is.
use Rattle.std.specs.Prelude.{◌≡◌, ℕ, ◌<◌, Bool, List, length}
use Rattle.kiss_file.specs.declared.file.KissFile.{KissFile}
use Rattle.dependence.specs.declared.bit.Bit.{Bit}
use Rattle.dependence.specs.declared.bit.Bit.TheVariants.{Latch, Output}
use Rattle.dependence.specs.SufficientBits.{next_value, output_value}

-- the latch has a bit in a word, or the output is an output of the machine
abbrev pub IsBit : KissFile → Bit → Type 0
IsBit F (Latch i) = i < 64
IsBit F (Output b) = b < F.outputs

-- what the gate of the bit gives at a state and a symbol
abbrev pub value_of : KissFile → List ℕ → Bit → ℕ → List Bool → Bool
value_of F words (Latch i) = next_value F words i
value_of F words (Output b) = output_value F b

-- a value is the same at two states, for each symbol
abbrev pub GiveTheSame : KissFile → (ℕ → List Bool → Bool) → ℕ → ℕ → Type 0
GiveTheSame F value s t = (x : List Bool) → length x ≡ F.inputs → value s x ≡ value t x
