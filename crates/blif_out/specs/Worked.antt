-- Worked texts of networks, after their headers and alone.
use Rattle.std.specs.Prelude.{ℕ, true, List, [], ◌∷◌, None, Some, codes}
use Rattle.std.specs.List.{flat_map}
use Rattle.hs_io.specs.Spelling.{ended}
use Rattle.net_core.specs.declared.Gate.{Gate}
use Rattle.net_core.specs.declared.Latch.{Latch}
use Rattle.net_core.specs.declared.Network.{Network}
use Rattle.net_core.specs.declared.Start.TheVariants.{One, Zero}
use Rattle.state_codes.specs.declared.split.Kind.TheVariants.{Code, Serial}
use Rattle.state_codes.specs.declared.split.Part.{Part}
use Rattle.blif_out.specs.declared.design.Design.{Design}
use Rattle.blif_out.specs.declared.header.Header.{Header}
use Rattle.blif_out.specs.declared.header.LatchNote.{LatchNote}

-- the text of these lines
abbrev pub text : List (List ℕ) → List ℕ
text lines = flat_map ended lines

-- a gate of these rows, at which it gives 1
abbrev pub gate : List (List ℕ) → List ℕ → List (List ℕ) → Gate
gate inputs output rows = record { inputs = inputs; output = output; rows = rows; on = true }

-- a latch that starts at 0
abbrev pub latch : List ℕ → List ℕ → Latch
latch input output = record { input = input; output = output; start = Zero }

-- a latch that starts at 1
abbrev pub set_latch : List ℕ → List ℕ → Latch
set_latch input output = record { input = input; output = output; start = One }

-- ---- a serial decomposition of the counter modulo 4
abbrev pub serial_header : Header
serial_header = record {
  kind = Serial;
  classes = None;
  parts =
      record { partition = 0 ∷ 1 ∷ 0 ∷ 1 ∷ []; carrier = 0 ∷ 1 ∷ 0 ∷ 1 ∷ []; reads = [] }
      ∷ record { partition = 0 ∷ 0 ∷ 1 ∷ 1 ∷ []; carrier = 0 ∷ 0 ∷ 1 ∷ 1 ∷ []; reads = 0 ∷ [] }
      ∷ [];
  states = codes "c0" ∷ codes "c1" ∷ codes "c2" ∷ codes "c3" ∷ [];
  words = 0 ∷ 1 ∷ 2 ∷ 3 ∷ [];
  latches =
      record { part = 0; from = 0 ∷ 1 ∷ 0 ∷ 1 ∷ []; to = 0 ∷ 1 ∷ 0 ∷ 1 ∷ [] }
      ∷ record { part = 1; from = 0 ∷ 1 ∷ 2 ∷ 3 ∷ []; to = 0 ∷ 0 ∷ 1 ∷ 1 ∷ [] }
      ∷ [];
}

abbrev pub serial_network : Network
serial_network = record {
  inputs = codes "x0" ∷ [];
  outputs = codes "z0" ∷ [];
  latches = latch (codes "d0") (codes "q0") ∷ latch (codes "d1") (codes "q1") ∷ [];
  gates =
      gate (codes "x0" ∷ codes "q0" ∷ []) (codes "d0") (codes "01" ∷ codes "10" ∷ [])
      ∷ gate (codes "x0" ∷ codes "q0" ∷ codes "q1" ∷ []) (codes "d1") (codes "-01" ∷ codes "0-1" ∷ codes "110" ∷ [])
      ∷ gate (codes "x0" ∷ codes "q0" ∷ codes "q1" ∷ []) (codes "z0") (codes "111" ∷ [])
      ∷ [];
}

abbrev pub serial_lines : List (List ℕ)
serial_lines =
    codes "# hsdec serial"
    ∷ codes "# part 0 0,1,0,1 carrier 0,1,0,1 reads -"
    ∷ codes "# part 1 0,0,1,1 carrier 0,0,1,1 reads 0"
    ∷ codes "# code c0 00"
    ∷ codes "# code c1 10"
    ∷ codes "# code c2 01"
    ∷ codes "# code c3 11"
    ∷ codes "# latch 0 part 0 from 0,1,0,1 to 0,1,0,1"
    ∷ codes "# latch 1 part 1 from 0,1,2,3 to 0,0,1,1"
    ∷ codes ".model hsdec"
    ∷ codes ".inputs x0"
    ∷ codes ".outputs z0"
    ∷ codes ".latch d0 q0 0"
    ∷ codes ".latch d1 q1 0"
    ∷ codes ".names x0 q0 d0"
    ∷ codes "01 1"
    ∷ codes "10 1"
    ∷ codes ".names x0 q0 q1 d1"
    ∷ codes "-01 1"
    ∷ codes "0-1 1"
    ∷ codes "110 1"
    ∷ codes ".names x0 q0 q1 z0"
    ∷ codes "111 1"
    ∷ codes ".end"
    ∷ []

-- ---- the natural code of a machine of two classes, whose latch reads no state bit
abbrev pub reduced_header : Header
reduced_header = record {
  kind = Code;
  classes = Some (0 ∷ 0 ∷ 0 ∷ 1 ∷ []);
  parts = record { partition = 0 ∷ 1 ∷ []; carrier = 0 ∷ 1 ∷ []; reads = [] } ∷ [];
  states = codes "a" ∷ codes "b" ∷ codes "c" ∷ codes "d" ∷ [];
  words = 0 ∷ 0 ∷ 0 ∷ 1 ∷ [];
  latches = record { part = 0; from = 0 ∷ 0 ∷ []; to = 0 ∷ 1 ∷ [] } ∷ [];
}

abbrev pub reduced_network : Network
reduced_network = record {
  inputs = codes "x0" ∷ [];
  outputs = codes "z0" ∷ [];
  latches = latch (codes "d0") (codes "q0") ∷ [];
  gates = gate (codes "x0" ∷ []) (codes "d0") (codes "1" ∷ []) ∷ gate (codes "q0" ∷ []) (codes "z0") (codes "1" ∷ []) ∷ [];
}

abbrev pub reduced_lines : List (List ℕ)
reduced_lines =
    codes "# hsdec code"
    ∷ codes "# classes 0,0,0,1"
    ∷ codes "# part 0 0,1 carrier 0,1 reads -"
    ∷ codes "# code a 0"
    ∷ codes "# code b 0"
    ∷ codes "# code c 0"
    ∷ codes "# code d 1"
    ∷ codes "# latch 0 part 0 from 0,0 to 0,1"
    ∷ codes ".model hsdec"
    ∷ codes ".inputs x0"
    ∷ codes ".outputs z0"
    ∷ codes ".latch d0 q0 0"
    ∷ codes ".names x0 d0"
    ∷ codes "1 1"
    ∷ codes ".names q0 z0"
    ∷ codes "1 1"
    ∷ codes ".end"
    ∷ []

-- ---- a network whose first latch starts at 1, with a clock and without one
abbrev pub started_network : Network
started_network = record {
  inputs = codes "up" ∷ codes "hold" ∷ [];
  outputs = codes "last" ∷ [];
  latches = set_latch (codes "d0") (codes "q0") ∷ latch (codes "d1") (codes "q1") ∷ [];
  gates =
      gate (codes "hold" ∷ codes "q1" ∷ []) (codes "d0") (codes "0-" ∷ codes "11" ∷ [])
      ∷ gate (codes "up" ∷ codes "q0" ∷ []) (codes "d1") (codes "10" ∷ [])
      ∷ gate (codes "q1" ∷ []) (codes "last") (codes "0" ∷ [])
      ∷ [];
}

-- a model with a clock
abbrev pub clocked_design : Design
clocked_design = record { model = codes "counter"; clock = Some (codes "clk") }

abbrev pub clocked_lines : List (List ℕ)
clocked_lines =
    codes ".model counter"
    ∷ codes ".inputs up hold"
    ∷ codes ".outputs last"
    ∷ codes ".latch d0 q0 re clk 1"
    ∷ codes ".latch d1 q1 re clk 0"
    ∷ codes ".names hold q1 d0"
    ∷ codes "0- 1"
    ∷ codes "11 1"
    ∷ codes ".names up q0 d1"
    ∷ codes "10 1"
    ∷ codes ".names q1 last"
    ∷ codes "0 1"
    ∷ codes ".end"
    ∷ []

-- another model, without a clock
abbrev pub named_design : Design
named_design = record { model = codes ".m-2"; clock = None }

abbrev pub named_lines : List (List ℕ)
named_lines =
    codes ".model .m-2"
    ∷ codes ".inputs up hold"
    ∷ codes ".outputs last"
    ∷ codes ".latch d0 q0 1"
    ∷ codes ".latch d1 q1 0"
    ∷ codes ".names hold q1 d0"
    ∷ codes "0- 1"
    ∷ codes "11 1"
    ∷ codes ".names up q0 d1"
    ∷ codes "10 1"
    ∷ codes ".names q1 last"
    ∷ codes "0 1"
    ∷ codes ".end"
    ∷ []

-- ---- a part whose carrier has fewer blocks, and which reads two parts
abbrev pub carried_part : Part
carried_part = record { partition = 0 ∷ 1 ∷ 2 ∷ 3 ∷ 0 ∷ []; carrier = 0 ∷ 0 ∷ 0 ∷ 1 ∷ 0 ∷ []; reads = 0 ∷ 12 ∷ [] }

-- ---- the note of a latch whose number is not that of its part
abbrev pub unlike_note : LatchNote
unlike_note = record { part = 1; from = 0 ∷ 1 ∷ 0 ∷ []; to = 0 ∷ 0 ∷ 1 ∷ [] }
