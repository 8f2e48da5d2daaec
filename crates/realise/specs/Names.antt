-- The names of signals: those that the file gives, and own names for the others.
use Rattle.std.specs.Prelude.{◌≡◌, ℕ, zero, suc, ◌≤◌, Contains, List, [], ◌∷◌, ◌++◌, Option, Some, None, map, unwrap_or, codes}
use Rattle.std.specs.Fmt.{decimal}
use Rattle.std.specs.List.{range_with_len}
use Rattle.kiss_file.specs.declared.file.KissFile.{KissFile}
use Rattle.kiss_file.specs.LawfulFile.{given_names}
use Rattle.net_core.specs.declared.SignalNames.{SignalNames}

-- the letters of inputs, outputs, latch inputs and latch outputs: x, z, d and q
abbrev pub input_letter : ℕ
input_letter = 120

abbrev pub output_letter : ℕ
output_letter = 122

abbrev pub next_letter : ℕ
next_letter = 100

abbrev pub state_letter : ℕ
state_letter = 113

-- what comes before each own name: `hs_`, that number of times
abbrev pub prefix : ℕ → List ℕ
prefix zero = []
prefix (suc count) = codes "hs_" ++ prefix count

-- an own name: the prefix, a letter and a number
abbrev pub own_name : ℕ → ℕ → ℕ → List ℕ
own_name count letter number = prefix count ++ letter ∷ decimal number

-- own names of a letter, numbered from 0
abbrev pub own_names : ℕ → ℕ → ℕ → List (List ℕ)
own_names count letter many = map (own_name count letter) (range_with_len 0 many)

-- own names are in use where the file gives none
abbrev pub unless_given : Option (List (List ℕ)) → List (List ℕ) → List (List ℕ)
unless_given None own = own
unless_given (Some given) own = []

-- the own names in use in a network with that number of latches
abbrev pub used_names : KissFile → ℕ → ℕ → List (List ℕ)
used_names F latches count =
    unless_given F.input_names (own_names count input_letter F.inputs)
    ++ unless_given F.output_names (own_names count output_letter F.outputs)
    ++ own_names count next_letter latches
    ++ own_names count state_letter latches

-- no own name in use is a given one
abbrev pub AreFree : KissFile → ℕ → ℕ → Type 0
AreFree F latches count = (name : List ℕ) → Contains (used_names F latches count) name → Contains (given_names F) name → ⊥

-- the least number of prefixes that keeps the own names in use apart from the given ones
pub record IsPrefixCount (F : KissFile) (latches count : ℕ) : Type 0 where
  pub free : AreFree F latches count
  pub least : (fewer : ℕ) → AreFree F latches fewer → count ≤ fewer

-- the names for a file and that number of latches: inputs and outputs have the names that the file gives, and the other
-- signals have own names
pub record AreNames (F : KissFile) (latches : ℕ) (names : SignalNames) : Type 0 where
  pub count : ℕ
  pub apart : IsPrefixCount F latches count
  pub inputs : names.inputs ≡ unwrap_or F.input_names (own_names count input_letter F.inputs)
  pub outputs : names.outputs ≡ unwrap_or F.output_names (own_names count output_letter F.outputs)
  pub latch_inputs : names.latch_inputs ≡ own_names count next_letter latches
  pub latch_outputs : names.latch_outputs ≡ own_names count state_letter latches

-- all of these names
abbrev pub all_names : SignalNames → List (List ℕ)
all_names names = names.inputs ++ names.outputs ++ names.latch_inputs ++ names.latch_outputs
