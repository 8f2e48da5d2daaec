-- For private functions and proofs only: pieces of the text, as they are appended.
use Rattle.std.specs.Prelude.{ℕ, List, ◌∷◌}
use Rattle.std.specs.Fmt.{decimal}
use Rattle.hs_io.specs.Spelling.{ended, line_text, spelled}
use Rattle.net_core.specs.declared.Gate.{Gate}
use Rattle.net_core.specs.declared.Latch.{Latch}
use Rattle.state_codes.specs.declared.split.Part.{Part}
use Rattle.blif_out.specs.declared.design.Design.{Design}
use Rattle.blif_out.specs.declared.header.LatchNote.{LatchNote}
use Rattle.blif_out.specs.Head.{comment_text, part_fields, state_fields, note_fields}
use Rattle.blif_out.specs.NetText.{row_fields, gate_fields, latch_fields}

-- a number after a comma
abbrev pub comma_number : ℕ → List ℕ
comma_number number = 44 ∷ decimal number

-- the line of a row
abbrev pub row_line : List ℕ → List ℕ
row_line row = ended (line_text (row_fields row))

-- the line of a latch
abbrev pub latch_line : Design → Latch → List ℕ
latch_line design latch = ended (line_text (latch_fields design latch))

-- the lines of a gate
abbrev pub gate_lines : Gate → List ℕ
gate_lines gate = spelled (gate_fields gate)

-- the comment of a part
abbrev pub part_line : ℕ × Part → List ℕ
part_line part = ended (comment_text (part_fields part))

-- the comment of a state
abbrev pub state_line : ℕ → List ℕ × ℕ → List ℕ
state_line bits state = ended (comment_text (state_fields bits state))

-- the comment of a latch
abbrev pub note_line : ℕ × LatchNote → List ℕ
note_line latch = ended (comment_text (note_fields latch))
