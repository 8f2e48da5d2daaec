use Rattle.std.proofs.Common.{arith}
use Rattle.std.proofs.lemmas.List.{length-map}
use Rattle.net_core.specs.Inner.Walk.{reads_of}
use Rattle.net_core.proofs.Stages.{work_falls}
use Rattle.net_core.proofs.walk.Walk.place.Goals as goal

pub loop-top-smaller : goal.loop-top-smaller
loop-top-smaller c =
    let gates = c.args.gates.now in
    let old = c.loop-top.self in
    let new = c.step.new.self in
    let rises = c.in_ok-step.ensures.rises in
    work_falls c.args.base (reads_of gates) old.stages.items new.path.items new.placed.items new.stages.items rises.0 c.in_ok-step.ensures.walk
    (omega (arith, rises.1, length-map gates (λ gate. gate.inputs.items))) c.loop-top.invariant.0.count rises.2
