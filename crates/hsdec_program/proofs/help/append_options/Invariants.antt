use Rattle.std.proofs.Common.{◌≡◌, ◌++◌, take}
use Rattle.hsdec_program.specs.Pages.{option_lines}
use Rattle.hsdec_program.proofs.help.append_options.Given as goal

abbrev pub invariant-loop-option : goal.invariant-loop-option
invariant-loop-option l = l.page.items ≡ l.initial.page.items ++ option_lines (take l.option-index l.options)
