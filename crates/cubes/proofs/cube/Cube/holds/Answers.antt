use Rattle.std.proofs.lemmas.Bool.{eqb-true, eq-eqb}
use Rattle.cubes.specs.Laws.Held.{held_from_mask, mask_from_held}
use Rattle.cubes.proofs.cube.Cube.holds.Goals as goal

pub returns : goal.returns
returns c = (
  λ h. held_from_mask c.args.self.now c.args.x (eqb-true _ _ h),
  λ h. eq-eqb _ _ (mask_from_held c.args.self.now c.args.x h),
)
