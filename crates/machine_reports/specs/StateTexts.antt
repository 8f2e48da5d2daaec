-- How a partition of the states of a machine is printed: by the labels of the states, or by their names.
use Rattle.std.specs.Prelude.{◌≡◌, ℕ, ◌==◌, List, [], ◌∷◌, ◌++◌, codes, filter, map}
use Rattle.std.specs.List.{range_with_len, zip}
use Rattle.hs_io.specs.Spelling.{line_text}
use Rattle.hs_texts.specs.ErrLines.{as_line}
use Rattle.partition.specs.Partition.{blocks_of}
use Rattle.partition.specs.Sides.{Sides}
use Rattle.partition.specs.Text.{labels_text}
use Rattle.machine_reports.specs.ListTexts.{pair_line, partition_line}
use Rattle.machine_reports.specs.declared.state_texts.Shown.{Shown}
use Rattle.machine_reports.specs.declared.state_texts.Shown.TheVariants.{Labels, Names}

-- the names of the states with a label, in the order of the states
abbrev pub names_with : List (List ℕ) → List ℕ → ℕ → List (List ℕ)
names_with names labels label = map (λ state. state.0) (filter (λ state. state.1 == label) (zip names labels))

-- a block: the names of its states in braces, with a blank between them
abbrev pub block_text : List (List ℕ) → List ℕ → ℕ → List ℕ
block_text names labels label = codes "{" ++ line_text (names_with names labels label) ++ codes "}"

-- the blocks in the order of their labels, with a blank between them
abbrev pub names_text : List (List ℕ) → List ℕ → List ℕ
names_text names labels = line_text (map (block_text names labels) (range_with_len 0 (blocks_of labels)))

-- the text of a partition of states that have these names
abbrev pub state_text : Shown → List (List ℕ) → List ℕ → List ℕ
state_text Labels names labels = labels_text labels
state_text Names names labels = names_text names labels

-- its line
abbrev pub state_line : Shown → List (List ℕ) → List ℕ → List ℕ
state_line shown names labels = as_line (state_text shown names labels)

-- what is between the sides of a pair
abbrev pub between : Shown → List ℕ
between Labels = codes " "
between Names = codes " / "

-- the line of a pair of partitions of states
abbrev pub state_pair_line : Shown → List (List ℕ) → Sides → List ℕ
state_pair_line shown names pair = state_text shown names pair.0 ++ between shown ++ state_line shown names pair.1

-- four states
abbrev pub example_names : List (List ℕ)
example_names = codes "a" ∷ codes "bb" ∷ codes "c" ∷ codes "dd" ∷ []

-- Lines of partitions of these states by their names. Those by labels are the lines of any partition and of any pair.
pub record ShowsStates : Type 0 where
  pub some : state_line Names example_names (0 ∷ 1 ∷ 1 ∷ 0 ∷ []) ≡ as_line (codes "{a dd} {bb c}")
  pub alone : state_line Names example_names (0 ∷ 1 ∷ 2 ∷ 3 ∷ []) ≡ as_line (codes "{a} {bb} {c} {dd}")
  pub together : state_line Names example_names (0 ∷ 0 ∷ 0 ∷ 0 ∷ []) ≡ as_line (codes "{a bb c dd}")
  pub pair : state_pair_line Names example_names (0 ∷ 1 ∷ 2 ∷ 0 ∷ [], 0 ∷ 0 ∷ 1 ∷ 1 ∷ []) ≡ as_line (codes "{a dd} {bb} {c} / {a bb} {c dd}")
  pub labels : (names : List (List ℕ)) (p : List ℕ) → state_line Labels names p ≡ partition_line p
  pub label_pair : (names : List (List ℕ)) (pair : Sides) → state_pair_line Labels names pair ≡ pair_line pair
