-- The words of BLIF that this product reads.
use Rattle.std.specs.Prelude.{ℕ, List, codes}

abbrev pub model_word : List ℕ
model_word = codes ".model"

abbrev pub inputs_word : List ℕ
inputs_word = codes ".inputs"

abbrev pub outputs_word : List ℕ
outputs_word = codes ".outputs"

abbrev pub clock_word : List ℕ
clock_word = codes ".clock"

abbrev pub latch_word : List ℕ
latch_word = codes ".latch"

abbrev pub names_word : List ℕ
names_word = codes ".names"

abbrev pub end_word : List ℕ
end_word = codes ".end"

-- the only type of latch that is supported: it takes its input at the rising edge of its clock
abbrev pub rising_edge : List ℕ
rising_edge = codes "re"

-- the control of a latch without a clock
abbrev pub no_control : List ℕ
no_control = codes "NIL"
