use Rattle.std.proofs.Common.{◌≡◌, ◌-◌, ◌≤◌, length, take}
use Rattle.cover_logic.specs.Inner.Bundles.{entries_in}
use Rattle.cover_logic.proofs.bundles.Bundles.of.Given as goal

abbrev pub invariant-loop-start : goal.invariant-loop-start
invariant-loop-start l = (entries_in l.bundles.items ≡ take l.start l.entries) × (l.start ≤ length l.entries)

abbrev pub decreases-loop-start : goal.decreases-loop-start
decreases-loop-start l = length l.entries - l.start
