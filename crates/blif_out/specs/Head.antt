-- The comments at the head of a network. Each line has a mark and then fields, with one space between each and the
-- next.
use Rattle.std.specs.Prelude.{◌≡◌, ℕ, ◌+◌, List, [], ◌∷◌, ◌++◌, Option, None, Some, length, map, codes}
use Rattle.std.specs.List.{flat_map, range_with_len, enumerate_from, zip}
use Rattle.std.specs.Fmt.{decimal}
use Rattle.std.specs.Int.{bit_at}
use Rattle.hs_io.specs.Spelling.{ended, line_text}
use Rattle.net_core.specs.declared.Network.{Network}
use Rattle.partition.specs.Text.{labels_text}
use Rattle.state_codes.specs.declared.split.Kind.{Kind}
use Rattle.state_codes.specs.declared.split.Kind.TheVariants.{Code, Assign, Parallel, Serial, Cascade, Feedback, Least}
use Rattle.state_codes.specs.declared.split.Part.{Part}
use Rattle.blif_out.specs.declared.design.Design.{Design}
use Rattle.blif_out.specs.declared.header.Header.{Header}
use Rattle.blif_out.specs.declared.header.LatchNote.{LatchNote}
use Rattle.blif_out.specs.NetText.{model_fields, net_text}

abbrev pub kind_word : Kind → List ℕ
kind_word Code = codes "code"
kind_word Assign = codes "assign"
kind_word Parallel = codes "parallel"
kind_word Serial = codes "serial"
kind_word Cascade = codes "cascade"
kind_word Feedback = codes "feedback"
kind_word Least = codes "least"

-- how the parts were made
abbrev pub kind_fields : Kind → List (List ℕ)
kind_fields kind = codes "hsdec" ∷ kind_word kind ∷ []

-- the partition into alike states, if there is one
abbrev pub classes_fields : Option (List ℕ) → List (List (List ℕ))
classes_fields None = []
classes_fields (Some classes) = (codes "classes" ∷ labels_text classes ∷ []) ∷ []

-- numbers joined by commas, and a dash for none
abbrev pub numbers_text : List ℕ → List ℕ
numbers_text [] = codes "-"
numbers_text (number ∷ numbers) = labels_text (number ∷ numbers)

-- a part with its number
abbrev pub part_fields : ℕ × Part → List (List ℕ)
part_fields (number, part) =
    codes "part" ∷ decimal number ∷ labels_text part.partition ∷ codes "carrier" ∷ labels_text part.carrier ∷ codes "reads" ∷ numbers_text part.reads ∷ []

-- this many bits of a word, bit 0 first, as digits
abbrev pub bits_of : ℕ → ℕ → List ℕ
bits_of bits word = map (λ i. 48 + bit_at word i) (range_with_len 0 bits)

-- bits as a text, and a dash for none
abbrev pub bit_text : List ℕ → List ℕ
bit_text [] = codes "-"
bit_text (bit ∷ bits) = bit ∷ bits

-- a state: its name and its code
abbrev pub state_fields : ℕ → List ℕ × ℕ → List (List ℕ)
state_fields bits (name, word) = codes "code" ∷ name ∷ bit_text (bits_of bits word) ∷ []

-- a latch with its number
abbrev pub note_fields : ℕ × LatchNote → List (List ℕ)
note_fields (number, latch) =
    codes "latch" ∷ decimal number ∷ codes "part" ∷ decimal latch.part ∷ codes "from" ∷ labels_text latch.from ∷ codes "to" ∷ labels_text latch.to ∷ []

-- the fields of each line, after the mark; a code has a bit for each latch
abbrev pub head_fields : Header → List (List (List ℕ))
head_fields H =
    kind_fields H.kind
    ∷ (classes_fields H.classes
    ++ map part_fields (enumerate_from 0 H.parts)
    ++ map (state_fields (length H.latches)) (zip H.states H.words)
    ++ map note_fields (enumerate_from 0 H.latches))

-- a comment with these fields
abbrev pub comment_text : List (List ℕ) → List ℕ
comment_text fields = line_text (codes "#" ∷ fields)

-- the lines of a header
abbrev pub head_lines : Header → List (List ℕ)
head_lines H = map comment_text (head_fields H)

-- the text of a header
abbrev pub header_text : Header → List ℕ
header_text H = flat_map ended (head_lines H)

-- the bytes begin with the lines of the header, and the model of the design follows
abbrev pub Head : Design → List ℕ → Header → Type 0
Head design bytes H = (rest : List ℕ) × (bytes ≡ header_text H ++ (ended (line_text (model_fields design)) ++ rest))

-- the whole text of a network after its header
abbrev pub net_text_of : Design → Header → Network → List ℕ
net_text_of design H N = header_text H ++ net_text design N
