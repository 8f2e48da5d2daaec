-- A network of three latches in two parts, whose gates are in another order than its latches, and the line of its
-- counts.
use Rattle.std.specs.Prelude.{ℕ, true, List, [], ◌∷◌, codes}
use Rattle.blif_out.specs.declared.header.LatchNote.{LatchNote}
use Rattle.hs_texts.specs.declared.comparisons.NetworkCounts.{NetworkCounts}
use Rattle.net_core.specs.declared.Gate.{Gate}
use Rattle.net_core.specs.declared.Latch.{Latch}
use Rattle.net_core.specs.declared.Network.{Network}
use Rattle.net_core.specs.declared.Start.TheVariants.{Zero}

-- a gate of these rows, at which it gives 1
abbrev pub gate : List (List ℕ) → List ℕ → List (List ℕ) → Gate
gate inputs output rows = record { inputs = inputs; output = output; rows = rows; on = true }

-- a latch that starts at 0
abbrev pub latch : List ℕ → List ℕ → Latch
latch input output = record { input = input; output = output; start = Zero }

-- The gate of d0 reads one latch, and those of d1 and d2 read two each. Two gates of outputs read two latches and
-- nothing.
abbrev pub three_latches : Network
three_latches = record {
  inputs = codes "x0" ∷ [];
  outputs = codes "z0" ∷ codes "z1" ∷ [];
  latches = latch (codes "d0") (codes "q0") ∷ latch (codes "d1") (codes "q1") ∷ latch (codes "d2") (codes "q2") ∷ [];
  gates =
      gate (codes "x0" ∷ codes "q0" ∷ codes "q1" ∷ []) (codes "d1") (codes "-01" ∷ codes "0-1" ∷ codes "110" ∷ [])
      ∷ gate (codes "q1" ∷ codes "q2" ∷ []) (codes "z0") (codes "11" ∷ [])
      ∷ gate (codes "x0" ∷ codes "q0" ∷ []) (codes "d0") (codes "01" ∷ codes "10" ∷ [])
      ∷ gate (codes "q0" ∷ codes "q2" ∷ []) (codes "d2") (codes "1-" ∷ [])
      ∷ gate [] (codes "z1") ([] ∷ [])
      ∷ [];
}

-- the note of a latch of a part
abbrev pub note : ℕ → LatchNote
note part = record { part = part; from = 0 ∷ []; to = 0 ∷ [] }

-- the middle latch is the one of part 0
abbrev pub three_notes : List LatchNote
three_notes = note 1 ∷ note 0 ∷ note 1 ∷ []

-- what is counted: of the five reads only that of q0 by the gate of d1 is across
abbrev pub three_counts : NetworkCounts
three_counts = record { latches = 3; reads = 5; across = 1; rows = 8; literals = 14 }
