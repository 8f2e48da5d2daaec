use Rattle.std.proofs.Common.{refl}
use Rattle.net_sim.proofs.laws.worked_texts.Goals as goal

pub returns-clause-bits : goal.returns-clause-bits
returns-clause-bits c = refl

pub returns-clause-no_bits : goal.returns-clause-no_bits
returns-clause-no_bits c = refl

pub returns-clause-answers : goal.returns-clause-answers
returns-clause-answers c = refl

pub returns-clause-symbols : goal.returns-clause-symbols
returns-clause-symbols c = (record { good = refl; field = refl; as_wide = refl }, (record { good = refl; field = refl; as_wide = refl }, tt))
