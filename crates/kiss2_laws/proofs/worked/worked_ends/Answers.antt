use Rattle.std.proofs.Common.{refl}
use Rattle.std.specs.Prelude.{codes}
use Rattle.kiss2.specs.Faults.{fault_in}
use Rattle.kiss2.specs.Kiss.{lines_read}
use Rattle.kiss2.specs.Standing.{each_once, state_names}
use Rattle.kiss2.specs.Words.{kind_of_field}
use Rattle.kiss2_laws.specs.Worked.{text, words_last_lines}
use Rattle.kiss2_laws.proofs.WorkedTexts.{reset_said, said_by, states_said}
use Rattle.kiss2_laws.proofs.worked.worked_ends.Goals as goal

pub returns-clause-said : goal.returns-clause-said
unfolding lines_read fault_in kind_of_field state_names each_once
returns-clause-said c = said_by (text words_last_lines) refl

pub returns-clause-states : goal.returns-clause-states
unfolding lines_read kind_of_field state_names each_once
returns-clause-states c F read = states_said (text words_last_lines) F read _ refl

pub returns-clause-reset : goal.returns-clause-reset
unfolding lines_read kind_of_field state_names each_once
returns-clause-reset c F read = reset_said (text words_last_lines) F read _ refl 1 (codes "b") refl refl

pub returns-clause-names : goal.returns-clause-names
unfolding lines_read kind_of_field
returns-clause-names c F read = (read.whole.input_names, read.whole.output_names)
