use Rattle.std.proofs.Common.{◌≡◌, ◌∙◌, ℕ, Bool, not, Option, Some, None, IsTrue, ap}
use Rattle.std.proofs.lemmas.Bool.{true≢false}
use Rattle.std.specs.Option.{IfNone, is_some}
use Rattle.dependence.proofs.Shared.{differ_more}
use Rattle.dependence.proofs.effects.differ_more.Goals as goal

if_none : (o : Option ℕ) (b : Bool) (P : Type 0) → is_some o ≡ not b → IsTrue b → IfNone o P → P
if_none None b P is told holds = holds
if_none (Some n) b P is told holds = absurd (true≢false (is ∙ ap not told))

pub returns-then-clash-ne0 : goal.returns-then-clash-ne0
returns-then-clash-ne0 c told =
    differ_more c.shared_bits-first.result.ones c.shared_bits-first.result.zeros c.shared_bits-second.result.ones c.shared_bits-second.result.zeros
    c.args.rows.now c.args.others.now c.shared_bits-first.ensures c.shared_bits-second.ensures c.if-clash-ne0.true
    (if_none c.lone_place.result c.is_none.result _ c.is_none.ensures told c.lone_place.ensures.none)
