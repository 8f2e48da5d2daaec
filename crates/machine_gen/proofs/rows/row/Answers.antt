use Rattle.std.proofs.Common.{refl, arith}
use Rattle.machine_gen.proofs.Cubes.{field_of_symbol, mask_within, two_bits, value_in_mask}
use Rattle.machine_gen.proofs.rows.row.Goals as goal

pub invariant_of-result : goal.invariant_of-result
invariant_of-result c = record {
  width_positive = c.requires.some_inputs;
  width_bound = omega (arith, c.requires.inputs);
  value_in_care = value_in_mask c.args.k c.args.place.symbol c.full_care.result c.from.result c.full_care.ensures c.from.ensures c.requires.symbol;
  care_in_width = mask_within c.args.k c.full_care.result c.full_care.ensures;
}

pub returns : goal.returns
returns c = record {
  symbol = field_of_symbol c.args.k c.args.place.symbol c.full_care.result c.from.result c.full_care.ensures c.from.ensures;
  from = refl;
  to = refl;
  care = refl;
  value = two_bits _ _ c.from-2.result c.from-3.result c.from-2.ensures c.from-3.ensures;
}
