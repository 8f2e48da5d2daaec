-- How a network is written: the name of its model, and the clock of its latches, if it has one.
use Rattle.std.specs.Prelude.{◌≢◌, ℕ, List, [], ◌∷◌, ◌++◌, Option, None, Some, IfSome, Contains, map, codes}
use Rattle.net_core.specs.declared.Network.{Network}
use Rattle.net_core.specs.SoundNetwork.{driven_by}
use Rattle.net_core.specs.Words.{no_control, rising_edge}
use Rattle.blif_out.specs.declared.design.Design.{Design}
use Rattle.blif_out.specs.Writable.{IsSignalName}

-- a model `hsdec` without a clock
abbrev pub plain_design : Design
plain_design = record { model = codes "hsdec"; clock = None }

-- the control beside the signals of a latch: none, or the type of the latch and its clock
abbrev pub control_fields : Option (List ℕ) → List (List ℕ)
control_fields None = []
control_fields (Some clock) = rising_edge ∷ clock ∷ []

-- the names that latches and gates drive; a text is refused where one of them is its clock
abbrev pub driven_signals : Network → List (List ℕ)
driven_signals N = map (λ latch. latch.output) N.latches ++ driven_by N.gates

-- the names of the signals: in a sound network each name that a gate reads is among them
abbrev pub signals_of : Network → List (List ℕ)
signals_of N = N.inputs ++ (N.outputs ++ (map (λ latch. latch.input) N.latches ++ driven_signals N))

-- a name that can be the clock of the latches: not the word for no control, and neither a latch nor a gate drives it
pub record IsClockOf (N : Network) (clock : List ℕ) : Type 0 where
  pub signal : IsSignalName clock
  pub controls : clock ≢ no_control
  pub undriven : ¬ Contains (driven_signals N) clock

-- a design in which the text of the network denotes it
pub record IsDesignOf (N : Network) (design : Design) : Type 0 where
  pub model : IsSignalName design.model
  pub clock : IfSome design.clock (IsClockOf N)

-- the plain design is one for every network
abbrev pub PlainDesignIsLawful : Type 0
PlainDesignIsLawful = (N : Network) → IsDesignOf N plain_design
