-- The BLIF text of a network, from `.model` on (source: the SIS manual). Each line ends with a line feed, and no
-- line is continued.
use Rattle.std.specs.Prelude.{ℕ, List, [], ◌∷◌, ◌++◌, map}
use Rattle.std.specs.List.{flat_map}
use Rattle.hs_io.specs.Spelling.{spelled}
use Rattle.net_core.specs.declared.Gate.{Gate}
use Rattle.net_core.specs.declared.Latch.{Latch}
use Rattle.net_core.specs.declared.Network.{Network}
use Rattle.net_core.specs.Start.{start_digit}
use Rattle.net_core.specs.Words.{model_word, inputs_word, outputs_word, latch_word, names_word, end_word}
use Rattle.blif_out.specs.declared.design.Design.{Design}
use Rattle.blif_out.specs.Design.{control_fields}

-- the output bit of each row that is written
abbrev pub one_digit : List ℕ
one_digit = 49 ∷ []

-- a row: its plane and the bit, or only the bit where the gate has no inputs
abbrev pub row_fields : List ℕ → List (List ℕ)
row_fields [] = one_digit ∷ []
row_fields (c ∷ cs) = (c ∷ cs) ∷ one_digit ∷ []

-- a gate: its inputs and its output, and then its rows
abbrev pub gate_fields : Gate → List (List (List ℕ))
gate_fields gate = (names_word ∷ (gate.inputs ++ gate.output ∷ [])) ∷ map row_fields gate.rows

-- a latch: its input and its output, the control of the design, and the start
abbrev pub latch_fields : Design → Latch → List (List ℕ)
latch_fields design latch = latch_word ∷ latch.input ∷ latch.output ∷ (control_fields design.clock ++ (start_digit latch.start ∷ []) ∷ [])

-- the name of the model
abbrev pub model_fields : Design → List (List ℕ)
model_fields design = model_word ∷ design.model ∷ []

-- the statements of a network
abbrev pub net_fields : Design → Network → List (List (List ℕ))
net_fields design N =
    model_fields design ∷ (inputs_word ∷ N.inputs) ∷ (outputs_word ∷ N.outputs) ∷ (map (latch_fields design) N.latches ++ flat_map gate_fields N.gates)

abbrev pub net_text : Design → Network → List ℕ
net_text design N = spelled (net_fields design N ++ (end_word ∷ []) ∷ [])
