use Rattle.std.proofs.Common.{◌+◌, ◌*◌}
use Rattle.machine_table.proofs.row_tree.RowTree.+branches.Given as goal

abbrev pub decreases-of_rows : goal.decreases-of_rows
decreases-of_rows l = 2 * l.depth

abbrev pub decreases-of_side : goal.decreases-of_side
decreases-of_side l = 2 * l.depth + 1
