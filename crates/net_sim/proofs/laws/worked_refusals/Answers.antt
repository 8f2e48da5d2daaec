use Rattle.std.proofs.Common.{codes, refl}
use Rattle.net_sim.proofs.WorkedRefusals.{first_unknown, no_symbol_refused, other_start, refused_run, second_unknown, short_start, two_bits_refused, two_fields_refused}
use Rattle.net_sim.proofs.laws.worked_refusals.Goals as goal

pub returns-clause-short_start : goal.returns-clause-short_start
returns-clause-short_start c = (codes "1", refl, short_start)

pub returns-clause-no_bit_in_start : goal.returns-clause-no_bit_in_start
returns-clause-no_bit_in_start c = (codes "1x", refl, other_start)

pub returns-clause-unknown_start : goal.returns-clause-unknown_start
returns-clause-unknown_start c = (refl, first_unknown)

pub returns-clause-free_start : goal.returns-clause-free_start
returns-clause-free_start c = (refl, second_unknown)

pub returns-clause-no_symbol : goal.returns-clause-no_symbol
returns-clause-no_symbol c = refused_run (codes "1\n2\n0 1\n") 2 no_symbol_refused

pub returns-clause-two_fields : goal.returns-clause-two_fields
returns-clause-two_fields c = refused_run (codes "# a\n1\n\n0 1\n2\n") 4 two_fields_refused

pub returns-clause-two_bits : goal.returns-clause-two_bits
returns-clause-two_bits c = refused_run (codes "00\n2\n") 1 two_bits_refused
