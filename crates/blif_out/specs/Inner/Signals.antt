-- Tests of names of signals.
use Rattle.std.specs.Prelude.{ℕ, ◌||◌, Bool, List}
use Rattle.std.specs.Str.{bytes_eq}
use Rattle.net_core.specs.declared.Gate.{Gate}
use Rattle.net_core.specs.declared.Latch.{Latch}

-- the latch has an input or an output of this name
abbrev pub is_of_latch : List ℕ → Latch → Bool
is_of_latch name latch = bytes_eq name latch.input || bytes_eq name latch.output

-- the gate has an output of this name
abbrev pub is_of_gate : List ℕ → Gate → Bool
is_of_gate name gate = bytes_eq name gate.output
