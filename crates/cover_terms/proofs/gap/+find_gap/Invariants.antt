use Rattle.std.proofs.Common.{◌-◌, ◌^◌, ◌*◌, ◌+◌}
use Rattle.cover_terms.proofs.gap.+find_gap.Given as goal

abbrev pub decreases-find_gap : goal.decreases-find_gap
decreases-find_gap l = (2 ^ 128 - l.part.care) * 2 + 1

abbrev pub decreases-find_near_gap : goal.decreases-find_near_gap
decreases-find_near_gap l = (2 ^ 128 - l.part.care) * 2
