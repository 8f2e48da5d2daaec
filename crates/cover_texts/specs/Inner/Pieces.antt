-- Pieces of the text, as they are appended.
use Rattle.std.specs.Prelude.{ℕ, List}
use Rattle.blif_out.specs.Head.{comment_text}
use Rattle.hs_io.specs.Spelling.{ended}
use Rattle.cover_texts.specs.Lines.{block_fields, pair_fields}

-- the comment of a block
abbrev pub block_line : ℕ × List ℕ → List ℕ
block_line block = ended (comment_text (block_fields block))

-- the comment of a pair
abbrev pub pair_line : List (List ℕ) → ℕ → (ℕ × ℕ) × ℕ → List ℕ
pair_line names bits pair = ended (comment_text (pair_fields names bits pair))
