-- For private functions and proofs only: the labels when one of them is removed.
use Rattle.std.specs.Prelude.{ℕ, ◌-◌, ◌==◌, nat_lt, if◌then◌else◌}

-- the label `gone` is removed, and its states get the label `kept`; the labels above it go down by one
abbrev pub relabelled : (kept gone label : ℕ) → ℕ
relabelled kept gone label = if label == gone then kept else (if nat_lt gone label then label - 1 else label)
