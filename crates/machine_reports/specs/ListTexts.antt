-- What commands that list print: one partition or one pair on each line, in ascending order.
use Rattle.std.specs.Prelude.{◌≡◌, ◌≤◌, ◌++◌, ◌∷◌, ℕ, List, length}
use Rattle.std.specs.List.{flat_map}
use Rattle.hs_lattice.specs.Listing.{Evidence, Lists}
use Rattle.hs_texts.specs.ErrLines.{as_line}
use Rattle.partition.specs.Sides.{Sides}
use Rattle.partition.specs.Text.{labels_text}

-- the line of a partition
abbrev pub partition_line : List ℕ → List ℕ
partition_line p = as_line (labels_text p)

-- the line of a pair: its left side, a space, and its right side
abbrev pub pair_line : Sides → List ℕ
pair_line pair = labels_text pair.0 ++ 32 ∷ partition_line pair.1

-- the lines of values
abbrev pub lines_of : {M : Type 0} → (M → List ℕ) → List M → List ℕ
lines_of line members = flat_map line members

-- the lines of all values with a property, if there are no more of them than the limit
abbrev pub IsListText : {M : Type 0} → (M → List ℕ) → (M → M → Type 0) → (M → Type 0) → ℕ → List ℕ → Type 0
IsListText {M} line precedes P limit text =
    (members : List M) × Lists precedes P members × (length members ≤ limit) × (text ≡ lines_of line members)

-- the lines of limit + 1 values with a property, in order
abbrev pub IsEvidenceText : {M : Type 0} → (M → List ℕ) → (M → M → Type 0) → (M → Type 0) → ℕ → List ℕ → Type 0
IsEvidenceText {M} line precedes P limit text = (members : List M) × Evidence precedes P limit members × (text ≡ lines_of line members)
