-- What `sopairs` prints: the outputs that occur, with their numbers, and after them the pairs.
use Rattle.std.specs.Prelude.{◌≡◌, ℕ, ◌∷◌, ◌++◌, List, codes, map}
use Rattle.std.specs.Fmt.{decimal}
use Rattle.std.specs.List.{enumerate_from, flat_map}
use Rattle.cubes.specs.Symbol.{digit, lowest_bits}
use Rattle.hs_texts.specs.ErrLines.{as_line}
use Rattle.io_pairs.specs.Outputs.{IsOutMmPair, occurring}
use Rattle.partition.specs.Sides.{RightBefore}
use Rattle.kiss_file.specs.declared.file.KissFile.{KissFile}
use Rattle.machine_reports.specs.ListTexts.{IsEvidenceText, IsListText, pair_line}

-- the digits of the outputs that are the bits of a number, output 0 first
abbrev pub output_digits : ℕ → ℕ → List ℕ
output_digits bits word = map digit (lowest_bits bits word)

-- the line of an output with its number
abbrev pub output_line : ℕ → ℕ × ℕ → List ℕ
output_line bits numbered = as_line (codes "output " ++ decimal numbered.0 ++ 32 ∷ output_digits bits numbered.1)

-- the lines of the outputs that occur, in the order in which they first occur, numbered from 0
abbrev pub output_lines : KissFile → List ℕ
output_lines F = flat_map (output_line F.outputs) (enumerate_from 0 (occurring F))

-- these lines, and after them the lines of all pairs, if there are no more pairs than the limit
abbrev pub IsOutputText : KissFile → ℕ → List ℕ → Type 0
IsOutputText F limit text = (pairs : List ℕ) × IsListText pair_line RightBefore (IsOutMmPair F) limit pairs × (text ≡ output_lines F ++ pairs)

-- these lines, and after them the lines of limit + 1 pairs
abbrev pub IsOutputEvidence : KissFile → ℕ → List ℕ → Type 0
IsOutputEvidence F limit text = (pairs : List ℕ) × IsEvidenceText pair_line RightBefore (IsOutMmPair F) limit pairs × (text ≡ output_lines F ++ pairs)
