use Rattle.std.proofs.Common.{◌≡◌, ℕ, ◌<◌, []}
use Rattle.net_core.specs.Inner.Walk.{Walks, stage_of}
use Rattle.net_core.proofs.walk.sequence.Given as goal

abbrev pub invariant-loop-gate : goal.invariant-loop-gate
invariant-loop-gate l = Walks l.base l.gates l.walk × (l.walk.path.items ≡ []) × ((g : ℕ) → g < l.gate → 0 < stage_of l.walk g)
