-- What is counted of a network. Each count is a sum over its latches or its gates.
use Rattle.std.specs.Prelude.{◌≡◌, ◌==◌, ℕ, ◌||◌, Bool, if◌then◌else◌, List, [], ◌∷◌, count_by, length, map, sum}
use Rattle.std.specs.List.{flat_map, list_any, zip}
use Rattle.std.specs.Str.{bytes_eq}
use Rattle.blif_out.specs.declared.header.LatchNote.{LatchNote}
use Rattle.hs_texts.specs.declared.comparisons.NetworkCounts.{NetworkCounts}
use Rattle.net_core.specs.declared.Gate.{Gate}
use Rattle.net_core.specs.declared.Latch.{Latch}
use Rattle.net_core.specs.declared.Network.{Network}

-- ---- reads
-- the outputs of latches
abbrev pub outputs_of : List Latch → List (List ℕ)
outputs_of latches = map (λ latch. latch.output) latches

-- the output of a latch if it belongs, as its note says, to another part than this one
abbrev pub output_apart : ℕ → Latch × LatchNote → List (List ℕ)
output_apart part (latch, note) = if note.part == part then [] else latch.output ∷ []

-- the outputs of the latches that belong to other parts than this one
abbrev pub outputs_apart : ℕ → List Latch → List LatchNote → List (List ℕ)
outputs_apart part latches notes = flat_map (output_apart part) (zip latches notes)

-- how many of these outputs a gate lists, if it is one of the signal
abbrev pub reads_by : List ℕ → List (List ℕ) → Gate → ℕ
reads_by signal outputs gate = if bytes_eq gate.output signal then count_by (λ name. list_any (bytes_eq name) outputs) gate.inputs else 0

-- how many of them the gates of the signal list
abbrev pub reads_of : List Gate → List ℕ → List (List ℕ) → ℕ
reads_of gates signal outputs = sum (map (reads_by signal outputs) gates)

-- over the latches, the latch outputs that the gate of the latch lists
abbrev pub latch_reads : Network → ℕ
latch_reads N = sum (map (λ latch. reads_of N.gates latch.input (outputs_of N.latches)) N.latches)

-- of them, those whose latch belongs to another part than the latch of the gate
abbrev pub reads_across : List Gate → List Latch → List LatchNote → ℕ
reads_across gates latches notes =
    sum (map (λ noted. reads_of gates noted.0.input (outputs_apart noted.1.part latches notes)) (zip latches notes))

-- the network with these notes of its latches has so many
abbrev pub AreReadsAcross : Network → List LatchNote → ℕ → Type 0
AreReadsAcross N notes count = count ≡ reads_across N.gates N.latches notes

-- ---- rows
-- the rows of gates
abbrev pub rows_of : List Gate → ℕ
rows_of gates = sum (map (λ gate. length gate.rows) gates)

-- a character that asks an input for a bit: 0 or 1
abbrev pub is_literal : ℕ → Bool
is_literal character = character == 48 || character == 49

-- the literals of rows
abbrev pub literals_in : List (List ℕ) → ℕ
literals_in rows = sum (map (count_by is_literal) rows)

-- the literals of the rows of gates
abbrev pub literals_of : List Gate → ℕ
literals_of gates = sum (map (λ gate. literals_in gate.rows) gates)

-- ---- together
-- the counts are those of the network, whatever they say of reads across
pub record AreCounts (N : Network) (counts : NetworkCounts) : Type 0 where
  pub latches : counts.latches ≡ length N.latches
  pub reads : counts.reads ≡ latch_reads N
  pub rows : counts.rows ≡ rows_of N.gates
  pub literals : counts.literals ≡ literals_of N.gates
