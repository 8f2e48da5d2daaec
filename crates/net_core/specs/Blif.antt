-- The BLIF texts that this product accepts: they denote a sound network, within limits.
use Rattle.std.specs.Prelude.{◌≡◌, ℕ, ◌≤◌, Option, Some, None, List, [], ◌∷◌, All, length}
use Rattle.std.specs.Option.{option_to_list}
use Rattle.std.specs.List.{flat_map}
use Rattle.net_core.specs.declared.Network.{Network}
use Rattle.net_core.specs.Statements.{Statement, Inputs, Outputs, Clock, LatchLine, Names, LatchParts, latch_parts, said_in}
use Rattle.net_core.specs.Denotation.{Denotes}
use Rattle.net_core.specs.SoundNetwork.{Sound}

-- the names on a latch's line: its input, its output, and its control if it has a type
abbrev pub latch_names : Option LatchParts → List (List ℕ)
latch_names None = []
latch_names (Some parts) = parts.input ∷ parts.output ∷ option_to_list parts.control

-- the names of signals and clocks in a statement; the name of the model has no limit
abbrev pub names_in : Statement → List (List ℕ)
names_in (Inputs names) = names
names_in (Outputs names) = names
names_in (Clock names) = names
names_in (LatchLine operands) = latch_names (latch_parts operands)
names_in (Names names) = names
names_in _ = []

-- the text and its network are within the limits
pub record IsWithinLimits (bytes : List ℕ) (N : Network) : Type 0 where
  pub names : All (λ name. length name ≤ 64) (flat_map names_in (said_in bytes))
  pub inputs : length N.inputs ≤ 256
  pub outputs : length N.outputs ≤ 256
  pub latches : length N.latches ≤ 256
  pub gates : length N.gates ≤ 65536
  pub gate_inputs : All (λ gate. length gate.inputs ≤ 256) N.gates

-- the bytes are a BLIF text of this network
pub record Blif (bytes : List ℕ) (N : Network) : Type 0 where
  pub denotes : Denotes bytes N
  pub sound : Sound N
  pub within : IsWithinLimits bytes N

-- a text is one of at most one network
abbrev pub BlifOnce : Type 0
BlifOnce = (bytes : List ℕ) (N M : Network) → Blif bytes N → Blif bytes M → N ≡ M
