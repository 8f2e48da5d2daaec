use Rattle.std.proofs.lemmas.Bool.{eqb-true, eq-eqb}
use Rattle.cubes.specs.Laws.Meeting.{meets_from_clash, clash_from_meets}
use Rattle.cubes.proofs.cube.Cube.meets.Goals as goal

pub returns : goal.returns
returns c = (
  λ h. meets_from_clash c.args.self.now c.args.c.now c.requires (eqb-true _ _ h),
  λ h. eq-eqb _ _ (clash_from_meets c.args.self.now c.args.c.now c.requires h),
)
