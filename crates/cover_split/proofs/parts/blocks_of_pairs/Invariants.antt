use Rattle.std.proofs.Common.{◌≡◌, map, take}
use Rattle.cover_split.proofs.parts.blocks_of_pairs.Given as goal

abbrev pub invariant-loop-pair : goal.invariant-loop-pair
invariant-loop-pair l = l.labels.items ≡ map (λ pair. pair.0) (take l.pair-index l.pairs)
