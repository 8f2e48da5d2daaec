use Rattle.std.proofs.Common.{refl}
use Rattle.cubes.proofs.Narrowing.{care_in_narrow, narrow_is, value_in_narrow}
use Rattle.cubes.proofs.gap.narrowed.Goals as goal

pub invariant_of-result-clause-value_in_care : goal.invariant_of-result-clause-value_in_care
invariant_of-result-clause-value_in_care c = value_in_narrow c.args.region.now c.args.places c.args.bits c.requires.dashes c.requires.bits

pub invariant_of-result-clause-care_in_width : goal.invariant_of-result-clause-care_in_width
invariant_of-result-clause-care_in_width c = care_in_narrow c.args.region.now c.args.places c.args.bits c.requires.dashes c.requires.bits

pub returns : goal.returns
returns c = narrow_is c.args.region.now c.args.places c.args.bits c.requires.dashes c.requires.bits _ refl refl refl
