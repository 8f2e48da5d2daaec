use Rattle.std.proofs.Common.{◌≡◌, ◌∙◌, get_or, sym, arith}
use Rattle.partition.specs.Laws.Least.{least_of-first, least_of-same}
use Rattle.partition.proofs.Partition.least_of.Goals as goal

pub returns-then-same-clause-least : goal.returns-then-same-clause-least
returns-then-same-clause-least c =
    let p = c.args.self.now in
    let held = c.same.ensures.0 c.if-same.true in
    let same : get_or p c.loop-t.t 0 ≡ get_or p c.args.s 0 = held.2 in
    sym (least_of-same p c.args.s c.loop-t.t (sym same) ∙ least_of-first p c.loop-t.t held.0 (λ u before equal. c.loop-t.invariant u before (equal ∙ same)))

pub returns-clause-least : goal.returns-clause-least
returns-clause-least c =
    sym (least_of-first c.args.self.now c.args.s c.requires (λ u before. c.loop-t.invariant u (omega arith)))
