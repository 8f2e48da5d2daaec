use Rattle.std.proofs.Common.{refl}
use Rattle.hsdec_program.specs.Pages.{answers_text}
use Rattle.hsdec_program.proofs.help.answers.Goals as goal

pub returns : goal.returns
unfolding answers_text
returns c = refl
