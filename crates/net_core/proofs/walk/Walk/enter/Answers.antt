use Rattle.std.proofs.Common.{ℕ, List, set, sym, subst, arith}
use Rattle.std.proofs.lemmas.List.{length-map}
use Rattle.net_core.specs.Inner.Walk.{IsWalk, reads_of}
use Rattle.net_core.proofs.Stages.{entered}
use Rattle.net_core.proofs.walk.Walk.enter.Goals as goal

pub returns-clause-walk : goal.returns-clause-walk
returns-clause-walk c =
    let walk = c.args.self.now in
    let reads = reads_of c.args.gates.now in
    subst (λ (path : List ℕ). IsWalk c.args.base reads (set walk.stages.items c.args.gate 1) path walk.placed.items) (sym c.in_ok-push.ensures.items)
    (entered c.args.base reads walk.stages.items walk.path.items walk.placed.items c.args.gate c.requires.walk
    (omega (arith, c.requires.gate, length-map c.args.gates.now (λ gate. gate.inputs.items))) c.requires.new c.requires.path)
