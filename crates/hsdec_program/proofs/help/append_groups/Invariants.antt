use Rattle.std.proofs.Common.{◌≡◌, ◌++◌, map, take}
use Rattle.std.specs.List.{flat_map}
use Rattle.job_words.specs.Table.{row_of}
use Rattle.hsdec_program.specs.Pages.{group_lines}
use Rattle.hsdec_program.proofs.help.append_groups.Given as goal

abbrev pub invariant-loop-group : goal.invariant-loop-group
invariant-loop-group l = l.page.items ≡ l.initial.page.items ++ flat_map (group_lines (map row_of l.forms)) (take l.group-index l.groups)
