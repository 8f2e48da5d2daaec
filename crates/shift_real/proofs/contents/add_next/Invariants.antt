-- The contents after this one at the symbols so far.
use Rattle.std.proofs.Common.{◌≡◌, ◌++◌, map}
use Rattle.std.specs.List.{range_with_len}
use Rattle.shift_real.specs.Inner.Contents.{content_after}
use Rattle.shift_real.proofs.contents.add_next.Given as goal

abbrev pub invariant-loop-x : goal.invariant-loop-x
invariant-loop-x l = l.longer.items ≡ l.initial.longer.items ++ map (content_after l.m l.content) (range_with_len 0 l.x)
