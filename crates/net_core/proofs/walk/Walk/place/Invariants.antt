use Rattle.std.proofs.Common.{ℕ, ◌-◌, ◌<◌, ◌≤◌, sum}
use Rattle.net_core.specs.Inner.Walk.{Walks, reads_of, stage_of}
use Rattle.net_core.proofs.Stages.{limits}
use Rattle.net_core.proofs.walk.Walk.place.Given as goal

abbrev pub invariant-loop-top : goal.invariant-loop-top
invariant-loop-top l =
    Walks l.base l.gates l.self × (0 < stage_of l.self l.gate) × ((g : ℕ) → stage_of l.fn.self g ≤ stage_of l.self g)

abbrev pub decreases-loop-top : goal.decreases-loop-top
decreases-loop-top l = sum (limits l.base (reads_of l.gates)) - sum l.self.stages.items
