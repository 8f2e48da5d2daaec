use Rattle.std.proofs.Common.{ℕ, List, length, refl, sym, subst, ◌∙◌, arith}
use Rattle.std.proofs.lemmas.Bool.{true≢false}
use Rattle.kiss_file.specs.declared.file.KissFile.{KissFile}
use Rattle.pair_operators.specs.NextBlocks.{Goes}
use Rattle.pair_operators.proofs.Firsts.{FirstsGo, firsts_from_pair, firsts_more, pair_from_firsts}
use Rattle.pair_operators.proofs.pairs.is_pair.Goals as goal

pub pair_goes-requires-clause-s : goal.pair_goes-requires-clause-s
pair_goes-requires-clause-s c = omega (arith, c.least_of.ensures.below, c.requires.left)

pub returns-then-not-pair_goes : goal.returns-then-not-pair_goes
returns-then-not-pair_goes c =
    let F : KissFile = c.args.m.now in
    let p : List ℕ = c.args.p.now in
    let q : List ℕ = c.args.q.now in
    let s : ℕ = c.loop-s.s in (
      (λ is. absurd (true≢false (sym is))),
      (λ pair.
          let goes = firsts_from_pair F p q pair s (omega (arith, c.requires.left)) in
          absurd (true≢false (sym (c.pair_goes.ensures.1 (subst (λ (u : ℕ). Goes F q u s) (sym c.least_of.ensures.least) goes)) ∙ c.if-not-pair_goes.true))),
    )

pub loop-s-preserved : goal.loop-s-preserved
loop-s-preserved c =
    let F : KissFile = c.args.m.now in
    let p : List ℕ = c.args.p.now in
    let q : List ℕ = c.args.q.now in
    let s : ℕ = c.loop-s.s in
    firsts_more F p q s c.loop-s.invariant (subst (λ (u : ℕ). Goes F q u s) c.least_of.ensures.least (c.pair_goes.ensures.0 c.if-not-pair_goes.false))

pub returns : goal.returns
returns c =
    let all : FirstsGo c.args.m.now c.args.p.now c.args.q.now (length c.args.p.now) = subst (λ (n : ℕ). FirstsGo c.args.m.now c.args.p.now c.args.q.now n) (omega (arith, c.requires.left, c.loop-s-test.false)) c.loop-s.invariant in
    ((λ is. pair_from_firsts c.args.m.now c.args.p.now c.args.q.now all), (λ pair. refl))
