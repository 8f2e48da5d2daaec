-- Covers as texts: blocks joined by slashes, and in a block numbers of states joined by commas (source: this project).
use Rattle.std.specs.Prelude.{◌≡◌, ℕ, ◌==◌, List, map}
use Rattle.std.specs.List.{slice_split}
use Rattle.std.specs.Fmt.{decimal}
use Rattle.partition.specs.Text.{pieces_of}

-- the texts between the commas of each part of the text between slashes
abbrev pub pieces_by_block : List ℕ → List (List (List ℕ))
pieces_by_block text = map pieces_of (slice_split (λ byte. byte == 47) text)

-- the pieces of the text are the numbers in these blocks, in decimal digits without leading zeros
abbrev pub Spells : List ℕ → List (List ℕ) → Type 0
Spells text blocks = pieces_by_block text ≡ map (map decimal) blocks
