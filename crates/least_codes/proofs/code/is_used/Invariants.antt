use Rattle.std.proofs.Common.{◌≡◌, ℕ, ◌<◌, get_or}
use Rattle.least_codes.proofs.code.is_used.Given as goal

abbrev pub invariant-loop-word : goal.invariant-loop-word
invariant-loop-word l = (u : ℕ) → u < l.word-index → get_or l.words u 0 ≡ get_or l.words l.s 0 → ⊥
