use Rattle.std.proofs.Common.{take}
use Rattle.dependence.specs.Bit.{value_of}
use Rattle.least_codes.specs.Inner.StatePairs.{AreApartOf}
use Rattle.least_codes.proofs.two_states.states_apart.Given as goal

abbrev pub invariant-loop-pair : goal.invariant-loop-pair
invariant-loop-pair l = AreApartOf l.m (value_of l.m l.words l.bit) (take l.pair-index l.pair-items) l.apart.items
