-- What `low` and `high` print: the line of m(PART) or of M(PART), for the partition of a text.
use Rattle.std.specs.Prelude.{◌≡◌, ℕ, List, length}
use Rattle.kiss_file.specs.declared.file.KissFile.{KissFile}
use Rattle.pair_operators.specs.Extremes.{IsHigh, IsLow}
use Rattle.operands.specs.PartTexts.{IsTextOfPartition}
use Rattle.machine_reports.specs.StateTexts.{state_line}
use Rattle.machine_reports.specs.declared.state_texts.Shown.{Shown}

-- the line of m(p), the least partition that the partition p of a text makes a pair with
abbrev pub IsLowText : Shown → KissFile → List ℕ → List ℕ → Type 0
IsLowText shown F part text = (p q : List ℕ) × IsTextOfPartition (length F.states) part p × IsLow F p q × (text ≡ state_line shown F.states q)

-- the line of M(q), the greatest partition that makes a pair with the partition q of a text
abbrev pub IsHighText : Shown → KissFile → List ℕ → List ℕ → Type 0
IsHighText shown F part text = (q p : List ℕ) × IsTextOfPartition (length F.states) part q × IsHigh F q p × (text ≡ state_line shown F.states p)
