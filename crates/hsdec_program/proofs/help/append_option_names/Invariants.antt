use Rattle.std.proofs.Common.{◌≡◌, ◌++◌, take}
use Rattle.std.specs.List.{flat_map}
use Rattle.hs_io.specs.Spelling.{spaced}
use Rattle.hsdec_program.specs.Phrases.{option_words}
use Rattle.hsdec_program.proofs.help.append_option_names.Given as goal

abbrev pub invariant-loop-option : goal.invariant-loop-option
invariant-loop-option l = l.page.items ≡ l.initial.page.items ++ flat_map (λ x. spaced (option_words x)) (take l.option-index l.options)
