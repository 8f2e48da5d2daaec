use Rattle.std.proofs.Common.{◌+◌, ◌*◌}
use Rattle.cover_logic.proofs.index.+add.Given as goal

abbrev pub decreases-add : goal.decreases-add
decreases-add l = l.depth * 3 + 2

abbrev pub decreases-add_parts : goal.decreases-add_parts
decreases-add_parts l = l.depth * 3 + 1

abbrev pub decreases-add_part : goal.decreases-add_part
decreases-add_part l = l.depth * 3 + 3
