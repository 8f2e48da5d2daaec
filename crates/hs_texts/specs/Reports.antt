-- The texts of reports that are not lists.
use Rattle.std.specs.Prelude.{ℕ, List, [], ◌∷◌, ◌++◌, Option, None, Some, codes, map}
use Rattle.std.specs.Fmt.{decimal}
use Rattle.std.specs.List.{AllByRecursion, flat_map}
use Rattle.hs_io.specs.Spelling.{IsComment, ended, spaced}
use Rattle.hs_texts.specs.ErrLines.{as_line}
use Rattle.hs_texts.specs.declared.reports.TrialFigures.{TrialFigures}

-- a line of a word and what it names
abbrev pub named_line : List ℕ → List ℕ → List ℕ
named_line word value = as_line (word ++ value)

-- the counts of a machine, and the name of its reset state
abbrev pub counts_text : ℕ → ℕ → ℕ → ℕ → List ℕ → List ℕ
counts_text states inputs outputs rows reset =
    named_line (codes "states ") (decimal states) ++ named_line (codes "inputs ") (decimal inputs)
    ++ named_line (codes "outputs ") (decimal outputs) ++ named_line (codes "rows ") (decimal rows) ++ named_line (codes "reset ") reset

-- numbers, each after a space
abbrev pub spaced_numbers : List ℕ → List ℕ
spaced_numbers numbers = flat_map spaced (map decimal numbers)

-- a count, which was taken up to 1000, or the words for more
abbrev pub count_within : Option ℕ → List ℕ
count_within None = codes "more than 1000"
count_within (Some count) = decimal count

-- the lines of the summary of a trial, without the line feeds that end them
abbrev pub trial_lines : TrialFigures → List (List ℕ)
trial_lines figures =
    (codes "# trial" ++ spaced_numbers (figures.seed ∷ figures.a ∷ figures.b ∷ figures.k ∷ []))
    ∷ (codes "# states " ++ decimal figures.states)
    ∷ (codes "# closed " ++ count_within figures.closed)
    ∷ (codes "# parts" ++ spaced_numbers figures.parts)
    ∷ (codes "# latches " ++ decimal figures.latches)
    ∷ (codes "# ones " ++ decimal figures.ones)
    ∷ []

-- the summary of a trial
abbrev pub trial_text : TrialFigures → List ℕ
trial_text figures = flat_map ended (trial_lines figures)

-- each of its lines is a comment
abbrev pub TrialLinesAreComments : Type 0
TrialLinesAreComments = (figures : TrialFigures) → AllByRecursion IsComment (trial_lines figures)
