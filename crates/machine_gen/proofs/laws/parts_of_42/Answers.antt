use Rattle.std.proofs.Common.{refl}
use Rattle.rand_pcg.specs.Lcg.{state_after}
use Rattle.machine_gen.specs.Words.{word}
use Rattle.machine_gen.proofs.laws.parts_of_42.Goals as goal

pub returns-clause-first_0 : goal.returns-clause-first_0
unfolding word state_after
returns-clause-first_0 c = (refl, refl)

pub returns-clause-first_1 : goal.returns-clause-first_1
unfolding word state_after
returns-clause-first_1 c = (refl, refl)

pub returns-clause-second_0 : goal.returns-clause-second_0
unfolding word state_after
returns-clause-second_0 c = (refl, refl)

pub returns-clause-second_1 : goal.returns-clause-second_1
unfolding word state_after
returns-clause-second_1 c = (refl, refl)
