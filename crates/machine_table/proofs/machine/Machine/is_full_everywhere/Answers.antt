use Rattle.std.proofs.Common.{ℕ, ◌≡◌, ◌∙◌, Bool, not, Option, Some, None, IfNone, IsTrue, is_some, ap, sym, subst}
use Rattle.std.proofs.lemmas.Bool.{true≢false}
use Rattle.machine_table.specs.Inner.OpenSymbol.{AreFullCubes}
use Rattle.machine_table.proofs.OpenCubes.{said_by_full}
use Rattle.machine_table.proofs.machine.Machine.is_full_everywhere.Goals as goal

if_none : (o : Option ℕ) (b : Bool) (P : Type 0) → is_some o ≡ not b → IsTrue b → IfNone o P → P
if_none None b P is told holds = holds
if_none (Some n) b P is told holds = absurd (true≢false (is ∙ ap not told))

pub returns : goal.returns
returns c full =
    let F = c.args.self.now in
    let cubes = c.deref.result.now in
    said_by_full F c.args.s cubes (subst (AreFullCubes F c.args.s) (sym c.deref.ensures.value) c.in_ok-cubes.ensures.full) c.in_ok-cubes.ensures.table c.inputs.result c.inputs.ensures.count
    (if_none c.in_ok-gap.gap c.is_none.result _ c.is_none.ensures full c.in_ok-gap.ensures.none)
