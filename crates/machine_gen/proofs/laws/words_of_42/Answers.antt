use Rattle.std.proofs.Common.{refl}
use Rattle.rand_pcg.specs.Lcg.{state_after}
use Rattle.machine_gen.specs.Words.{word}
use Rattle.machine_gen.proofs.laws.words_of_42.Goals as goal

pub returns-clause-first : goal.returns-clause-first
unfolding word state_after
returns-clause-first c = refl

pub returns-clause-second : goal.returns-clause-second
unfolding word state_after
returns-clause-second c = refl

pub returns-clause-third : goal.returns-clause-third
unfolding word state_after
returns-clause-third c = refl

pub returns-clause-fourth : goal.returns-clause-fourth
unfolding word state_after
returns-clause-fourth c = refl
