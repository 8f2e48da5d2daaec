use Rattle.std.proofs.Common.{ℕ, List, length, refl, sym, subst, ◌∙◌, arith}
use Rattle.std.proofs.lemmas.Bool.{true≢false}
use Rattle.kiss_file.specs.declared.file.KissFile.{KissFile}
use Rattle.machine_table.specs.Pairs.{AgreeAt, AtEachSymbol}
use Rattle.output_consistent.proofs.Agreeing.{FirstsAgree, consistent_from_firsts, firsts_from_consistent, firsts_more}
use Rattle.output_consistent.proofs.consistency.is_consistent.Goals as goal

pub outputs_agree-requires-clause-s : goal.outputs_agree-requires-clause-s
outputs_agree-requires-clause-s c = omega (arith, c.least_of.ensures.below, c.requires)

pub returns-then-not-outputs_agree : goal.returns-then-not-outputs_agree
returns-then-not-outputs_agree c =
    let F : KissFile = c.args.m.now in
    let p : List ℕ = c.args.p.now in
    let s : ℕ = c.loop-s.s in (
      (λ is. absurd (true≢false (sym is))),
      (λ consistent.
          let agree = firsts_from_consistent F p consistent s (omega (arith, c.requires)) in
          absurd (true≢false (sym (c.outputs_agree.ensures.1 (subst (λ (u : ℕ). AtEachSymbol F.inputs (AgreeAt F u s)) (sym c.least_of.ensures.least) agree)) ∙ c.if-not-outputs_agree.true))),
    )

pub loop-s-preserved : goal.loop-s-preserved
loop-s-preserved c =
    let F : KissFile = c.args.m.now in
    let p : List ℕ = c.args.p.now in
    let s : ℕ = c.loop-s.s in
    firsts_more F p s c.loop-s.invariant (subst (λ (u : ℕ). AtEachSymbol F.inputs (AgreeAt F u s)) c.least_of.ensures.least (c.outputs_agree.ensures.0 c.if-not-outputs_agree.false))

pub returns : goal.returns
returns c =
    let all : FirstsAgree c.args.m.now c.args.p.now (length c.args.p.now) = subst (λ (n : ℕ). FirstsAgree c.args.m.now c.args.p.now n) (omega (arith, c.requires, c.loop-s-test.false)) c.loop-s.invariant in
    ((λ is. consistent_from_firsts c.args.m.now c.args.p.now all), (λ consistent. refl))
