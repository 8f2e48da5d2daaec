use Rattle.std.proofs.Common.{take}
use Rattle.net_core.specs.Order.{AreAt}
use Rattle.net_core.specs.SoundNetwork.{driven_by}
use Rattle.net_core.proofs.checker.driven_at.Given as goal

abbrev pub invariant-loop-place : goal.invariant-loop-place
invariant-loop-place l = AreAt (driven_by l.gates) (take l.place-index l.places) l.names
