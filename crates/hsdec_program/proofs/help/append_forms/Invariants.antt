use Rattle.std.proofs.Common.{◌≡◌, ◌++◌, map, take}
use Rattle.std.specs.List.{flat_map}
use Rattle.job_words.specs.Table.{row_of}
use Rattle.hsdec_program.specs.Pages.{lines_within}
use Rattle.hsdec_program.proofs.help.append_forms.Given as goal

abbrev pub invariant-loop-form : goal.invariant-loop-form
invariant-loop-form l = l.page.items ≡ l.initial.page.items ++ flat_map (lines_within l.group) (map row_of (take l.form-index l.forms))
