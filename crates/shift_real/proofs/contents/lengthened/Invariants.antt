-- The contents after those so far.
use Rattle.std.proofs.Common.{◌≡◌, take}
use Rattle.std.specs.List.{flat_map}
use Rattle.shift_real.specs.Inner.Contents.{contents_after}
use Rattle.shift_real.proofs.contents.lengthened.Given as goal

abbrev pub invariant-loop-content : goal.invariant-loop-content
invariant-loop-content l = l.longer.items ≡ flat_map (contents_after l.m) (take l.content-index l.shorter)
