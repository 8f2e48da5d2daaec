use Rattle.std.proofs.Common.{ℕ, ◌≡◌, ◌+◌, subst, arith}
use Rattle.machine_table.specs.Inner.OpenSymbol.{IsFirstAmong}
use Rattle.machine_table.proofs.OpenParts.{with_all_said}
use Rattle.machine_table.proofs.machine.Machine.first_open_at.Goals as goal

pub returns-then-says_all : goal.returns-then-says_all
returns-then-says_all c =
    with_all_said c.args.self.now c.args.s (c.says_all.ensures c.if-says_all.true) c.earlier-first.result
    (c.earlier-first.ensures c.args.self.now c.args.s (λ number part within counted. absurd (omega arith)) c.in_ok-gap.ensures)

pub loop-b-init : goal.loop-b-init
loop-b-init c = c.earlier-first.ensures c.args.self.now c.args.s (λ number part within counted. absurd (omega arith)) c.in_ok-gap.ensures

pub loop-b-preserved : goal.loop-b-preserved
loop-b-preserved c = c.earlier-first-in-loop-b.ensures c.args.self.now c.args.s c.loop-b.invariant c.in_ok-gap-2.ensures

pub returns : goal.returns
returns c =
    let all : c.loop-b.b ≡ c.args.self.now.outputs = omega arith in
    subst (λ (parts : ℕ). IsFirstAmong c.args.self.now c.args.s (parts + 1) c.loop-b.first) all c.loop-b.invariant
