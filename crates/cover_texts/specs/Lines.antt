-- The comments before the network of a cover: those of its blocks, of the codes of its pairs and of its latches.
use Rattle.std.specs.Prelude.{ℕ, List, [], ◌∷◌, ◌++◌, codes, map, slice_index_or}
use Rattle.std.specs.List.{enumerate_from, flat_map, zip}
use Rattle.std.specs.Fmt.{decimal}
use Rattle.blif_out.specs.declared.header.LatchNote.{LatchNote}
use Rattle.blif_out.specs.Head.{bit_text, bits_of, comment_text, note_fields}
use Rattle.cover_split.specs.Expansion.{pairs_of}
use Rattle.hs_io.specs.Spelling.{ended}
use Rattle.partition.specs.Text.{labels_text}

-- a block with its number: its states, joined by commas
abbrev pub block_fields : ℕ × List ℕ → List (List ℕ)
block_fields (number, states) = codes "block" ∷ decimal number ∷ labels_text states ∷ []

-- a pair of a block and a state with its code: the name of the state, the number of the block, the bits of the code
abbrev pub pair_fields : List (List ℕ) → ℕ → (ℕ × ℕ) × ℕ → List (List ℕ)
pair_fields names bits ((block, state), word) =
    codes "code" ∷ slice_index_or names state [] ∷ decimal block ∷ bit_text (bits_of bits word) ∷ []

-- the fields of each comment, after the mark
abbrev pub cover_fields : List (List ℕ) → List (List ℕ) → ℕ → List ℕ → List LatchNote → List (List (List ℕ))
cover_fields names blocks bits words notes =
    (codes "hsdec" ∷ codes "cover" ∷ [])
    ∷ (map block_fields (enumerate_from 0 blocks) ++ map (pair_fields names bits) (zip (pairs_of blocks) words) ++ map note_fields (enumerate_from 0 notes))

-- the comments
abbrev pub cover_lines : List (List ℕ) → List (List ℕ) → ℕ → List ℕ → List LatchNote → List (List ℕ)
cover_lines names blocks bits words notes = map comment_text (cover_fields names blocks bits words notes)

-- the text of the comments, for states of these names
abbrev pub cover_comments : List (List ℕ) → List (List ℕ) → ℕ → List ℕ → List LatchNote → List ℕ
cover_comments names blocks bits words notes = flat_map ended (cover_lines names blocks bits words notes)
