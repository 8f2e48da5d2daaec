-- The operands PART and PARTS: the text of a partition, and texts of partitions joined by slashes.
use Rattle.std.specs.Prelude.{◌≡◌, ℕ, ◌==◌, List}
use Rattle.std.specs.List.{AllZip, slice_split}
use Rattle.partition.specs.Partition.{IsPartition}
use Rattle.partition.specs.Text.{labels_text}

-- the text is the text of this partition of n states
abbrev pub IsTextOfPartition : ℕ → List ℕ → List ℕ → Type 0
IsTextOfPartition states text p = IsPartition states p × (text ≡ labels_text p)

-- the pieces of PARTS between its slashes
abbrev pub texts_of_parts : List ℕ → List (List ℕ)
texts_of_parts text = slice_split (λ byte. byte == 47) text

-- the pieces of PARTS are the texts of these partitions, in order
abbrev pub ArePartTexts : ℕ → List ℕ → List (List ℕ) → Type 0
ArePartTexts states text partitions = AllZip (IsTextOfPartition states) (texts_of_parts text) partitions
