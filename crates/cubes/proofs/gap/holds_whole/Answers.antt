use Rattle.std.proofs.Common.{refl, sym, ◌∙◌}
use Rattle.cubes.proofs.gap.holds_whole.Goals as goal

pub returns-then-looks-eq0 : goal.returns-then-looks-eq0
returns-then-looks-eq0 c =
    (λ _. (c.loop-cube.cube-index, c.cube-item.result, c.loop-cube-test.true, sym c.cube-item.is, sym c.looks.ensures ∙ c.if-looks-eq0.true), λ _. refl)
