use Rattle.std.proofs.Common.{◌≡◌, ◌++◌, map, take}
use Rattle.cover_split.proofs.pairs.add_pairs.Given as goal

abbrev pub invariant-loop-s : goal.invariant-loop-s
invariant-loop-s l = l.pairs.items ≡ l.initial.pairs.items ++ map (λ s. (l.j, s)) (take l.s-index l.states)
