use Rattle.std.proofs.Common.{◌+◌, length}
use Rattle.part_rows.proofs.Fields.{cube_value}
use Rattle.part_rows.proofs.narrowed.narrowed.Goals as goal

pub invariant_of-result : goal.invariant_of-result
invariant_of-result c = record {
  width_positive = c.requires.some;
  width_bound = c.requires.few;
  value_in_care = cube_value (length c.args.inputs.now + c.args.places) c.with_inputs-whole.result c.with_inputs-whole.ensures.field;
  care_in_width = c.with_inputs-whole.ensures.field.care_below;
}
