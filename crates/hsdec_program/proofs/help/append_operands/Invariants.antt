use Rattle.std.proofs.Common.{◌≡◌, ◌++◌, take}
use Rattle.hsdec_program.specs.Pages.{operand_lines}
use Rattle.hsdec_program.proofs.help.append_operands.Given as goal

abbrev pub invariant-loop-operand : goal.invariant-loop-operand
invariant-loop-operand l = l.page.items ≡ l.initial.page.items ++ operand_lines (take l.operand-index l.operands)
