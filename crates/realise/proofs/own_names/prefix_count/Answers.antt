use Rattle.std.proofs.Common.{◌≡◌, ◌-◌, ◌+◌, ◌∙◌, sym, arith}
use Rattle.realise.proofs.Free.{first_here, first_last, first_later, first_of_all}
use Rattle.realise.proofs.own_names.prefix_count.Goals as goal

pub loop-count-init : goal.loop-count-init
loop-count-init c = first_of_all c.args.file.now c.args.latches

pub loop-count-preserved : goal.loop-count-preserved
loop-count-preserved c =
    sym (first_later (22 - c.loop-count.count) (22 - (c.loop-count.count + 1)) c.args.file.now c.args.latches c.loop-count.count (omega arith) (sym c.in_ok-are_free.ensures ∙ c.if-branch.false))
    ∙ c.loop-count.invariant

pub returns-then-branch : goal.returns-then-branch
returns-then-branch c =
    sym (first_here (22 - c.loop-count.count) c.args.file.now c.args.latches c.loop-count.count (sym c.in_ok-are_free.ensures ∙ c.if-branch.true))
    ∙ c.loop-count.invariant

pub returns : goal.returns
returns c =
    let all : 22 ≡ c.loop-count.count = omega arith in
    all ∙ (sym (first_last (22 - c.loop-count.count) c.args.file.now c.args.latches c.loop-count.count (omega arith)) ∙ c.loop-count.invariant)
