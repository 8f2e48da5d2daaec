use Rattle.std.proofs.Common.{refl}
use Rattle.hsdec_program.specs.Pages.{usage_text}
use Rattle.hsdec_program.proofs.help.usage.Goals as goal

pub returns : goal.returns
unfolding usage_text
returns c = refl
