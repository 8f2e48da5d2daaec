-- The two rows that a refusal names.
use Rattle.std.specs.Prelude.{ℕ, ◌+◌, ◌≡◌}
use Rattle.kiss_file.specs.declared.file.KissFile.{KissFile}
use Rattle.state_rows.specs.Conflict.{AreFirstTwo}

-- the first two rows that contradict one another, counted from 1
abbrev pub IsFirstConflict : KissFile → ℕ → ℕ → Type 0
IsFirstConflict F a b = (i j : ℕ) × (a ≡ i + 1) × (b ≡ j + 1) × AreFirstTwo F.rows i j
