use Rattle.std.proofs.Common.{◌+◌, length}
use Rattle.dependence.proofs.effects.+add_across.Given as goal

abbrev pub decreases-add_across : goal.decreases-add_across
decreases-add_across l = length l.rows.now + length l.others.now
