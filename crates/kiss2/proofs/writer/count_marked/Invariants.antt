use Rattle.std.proofs.Common.{◌≡◌, ◌≤◌, take}
use Rattle.std.specs.Prelude.{count_by}
use Rattle.kiss2.proofs.writer.count_marked.Given as goal

abbrev pub invariant-loop-stands : goal.invariant-loop-stands
invariant-loop-stands l = (l.count ≡ count_by (λ b. b) (take l.stands-index l.standing)) × (l.count ≤ l.stands-index)
