-- The notes of the latches of a network: the part of each latch, and its partition pair.
use Rattle.std.specs.Prelude.{◌≡◌, ℕ, ◌<◌, ◌↔◌, Contains, List, Some, length, slice_get, slice_index}
use Rattle.blif_out.specs.declared.header.LatchNote.{LatchNote}
use Rattle.dependence.specs.declared.sets.ReadSet.{ReadSet}
use Rattle.dependence.specs.SufficientBits.{AgreeOn}
use Rattle.partition.specs.Partition.{IsPartition, Together}
use Rattle.state_codes.specs.declared.Codes.{Codes}
use Rattle.state_codes.specs.Agreement.{IsBitPartition}

-- two states are together exactly where their words agree on the set
pub record IsPartitionOn (words : List ℕ) (R : ℕ → Type 0) (p : List ℕ) : Type 0 where
  pub lawful : IsPartition (length words) p
  pub together : (s t : ℕ) → s < length words → t < length words → Together p s t ↔ AgreeOn words R s t

-- the note of latch i, whose gate reads the set: the part of its bit, the partition by the bits that the gate
-- reads, and the partition by the latch's own bit
pub record IsNoteOf (codes : Codes) (i : ℕ) (set : ReadSet) (note : LatchNote) : Type 0 where
  pub part : note.part ≡ slice_index codes.owner i
  pub from : IsPartitionOn codes.words (Contains set.latches) note.from
  pub to : IsBitPartition (length codes.words) codes.words i note.to

-- there is a note for each set
pub record AreNotes (codes : Codes) (sets : List ReadSet) (notes : List LatchNote) : Type 0 where
  pub count : length notes ≡ length sets
  pub each : (i : ℕ) (set : ReadSet) (note : LatchNote) → slice_get sets i ≡ Some set → slice_get notes i ≡ Some note → IsNoteOf codes i set note
