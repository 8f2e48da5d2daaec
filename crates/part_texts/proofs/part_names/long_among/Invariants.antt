-- None of the names so far is too long.
use Rattle.std.proofs.Common.{◌≡◌, ◌<◌, ℕ, [], false, get_or}
use Rattle.part_texts.specs.PartCauses.{is_long}
use Rattle.part_texts.proofs.part_names.long_among.Given as goal

abbrev pub invariant-loop-name : goal.invariant-loop-name
invariant-loop-name l = (k : ℕ) → k < l.name-index → is_long (get_or l.names k []) ≡ false
