use Rattle.std.proofs.Common.{◌≡◌, length, take, sum_by}
use Rattle.cover_split.proofs.text.places.Given as goal

abbrev pub invariant-loop-block : goal.invariant-loop-block
invariant-loop-block l = l.found ≡ sum_by length (take l.block-index l.blocks)
