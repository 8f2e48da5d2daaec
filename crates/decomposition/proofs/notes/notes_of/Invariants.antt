-- The notes of the sets so far.
use Rattle.std.proofs.Common.{take}
use Rattle.decomposition.specs.Notes.{AreNotes}
use Rattle.decomposition.proofs.notes.notes_of.Given as goal

abbrev pub invariant-loop-i : goal.invariant-loop-i
invariant-loop-i l = AreNotes l.codes (take l.i l.sets) l.notes
