use Rattle.std.proofs.Common.{◌≡◌, ◌++◌, take}
use Rattle.std.specs.List.{flat_map}
use Rattle.hs_io.specs.Spelling.{spaced}
use Rattle.hsdec_program.specs.Phrases.{operand_word}
use Rattle.hsdec_program.proofs.help.append_operand_names.Given as goal

abbrev pub invariant-loop-operand : goal.invariant-loop-operand
invariant-loop-operand l = l.page.items ≡ l.initial.page.items ++ flat_map (λ x. spaced (operand_word x)) (take l.operand-index l.operands)
