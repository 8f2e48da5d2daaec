use Rattle.std.proofs.Common.{◌<◌, ◌+◌, ℕ, List, length, sym, subst, arith}
use Rattle.kiss_file.specs.declared.file.KissFile.{KissFile}
use Rattle.pair_operators.proofs.LowSoFar.{IsLowSoFar, low_held, low_alone, low_all}
use Rattle.pair_operators.proofs.least.low.Goals as goal
use Rattle.pair_operators.proofs.least.low.Goals.{then-first-s+in_ok-merge_images, else-first-s}

pub loop-s-preserved : goal.loop-s-preserved
loop-s-preserved c =
    let F : KissFile = c.args.m.now in
    let p : List ℕ = c.args.p.now in
    let s : ℕ = c.loop-s.s in
    let within : s < length F.states = omega (arith, c.states-s-end.ensures.count) in
    elim c.if-first-s.branch [
      | then-first-s+in_ok-merge_images w ↦
          subst (λ (r : List ℕ). IsLowSoFar F p (s + 1) r) (sym w.q-is)
          (low_held F p s c.least_of-first.result c.loop-s.q w.merge_images.new.part (omega (arith, c.requires)) c.least_of-first.ensures.least c.loop-s.invariant w.in_ok-merge_images.ensures)
      | else-first-s w ↦
          subst (λ (r : List ℕ). IsLowSoFar F p (s + 1) r) (sym w.q-is)
          (low_alone F p s c.least_of-first.result c.loop-s.q c.states.ensures.inside within c.least_of-first.ensures.least w.if-first-s.false c.loop-s.invariant)
    ]

pub returns : goal.returns
returns c = low_all c.args.m.now c.args.p.now c.loop-s.s c.loop-s.q (omega (arith, c.requires, c.states-s-end.ensures.count, c.loop-s-test.false)) c.loop-s.invariant
