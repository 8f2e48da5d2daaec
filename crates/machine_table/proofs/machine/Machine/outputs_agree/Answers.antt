use Rattle.std.proofs.Common.{ℕ, ◌≡◌, ◌<◌, ◌∙◌, Option, None, Some, IfNone, IfSome, IsNone, false, ap, not, inl, inr, subst, sym, arith, refl}
use Rattle.std.proofs.lemmas.Bool.{cases_lt, false≢true, true≢false}
use Rattle.state_pairs.specs.Pairs.{AgreeAt, AgreeInBit, AtEachSymbol, DifferInBit, IsFoundInBits}
use Rattle.kiss_file.specs.declared.file.KissFile.{KissFile}
use Rattle.state_pairs.specs.Laws.Labels.{true_from_not}
use Rattle.machine_table.proofs.OutputLabels.{from_each_bit, in_each_bit, none_of_all}
use Rattle.machine_table.proofs.machine.Machine.outputs_agree.Goals as goal

-- where a search found no symbol, the outputs agree at each
all_agree : (F : KissFile) (s t : ℕ) (found : Option ℕ) → IsNone found → IfNone found (AtEachSymbol F.inputs (AgreeAt F s t)) → AtEachSymbol F.inputs (AgreeAt F s t)
all_agree F s t None none agree = agree
all_agree F s t (Some x) none agree = absurd (true≢false none)

none_if_agree : (F : KissFile) (s t : ℕ) (found : Option ℕ) → IfSome found (DifferInBit F s t) → AtEachSymbol F.inputs (AgreeAt F s t) → IsNone found
none_if_agree F s t None first agree = refl
none_if_agree F s t (Some x) (within, (b, inside, two)) agree = absurd (two (in_each_bit F s t x b inside (agree x within)))

pub loop-b-preserved : goal.loop-b-preserved
loop-b-preserved c k below =
    elim (cases_lt k c.loop-b.b) [
      | inl lower ↦ c.loop-b.invariant k lower
      | inr here ↦
          let same : c.loop-b.b ≡ k = omega arith in
          subst (λ (n : ℕ). AtEachSymbol c.args.self.now.inputs (AgreeInBit n c.args.self.now c.args.s c.args.t)) same
          (c.bit_agrees.ensures.0 c.if-not-bit_agrees.false)
    ]

pub returns-then-not-bit_agrees : goal.returns-then-not-bit_agrees
returns-then-not-bit_agrees c =
    let inside : c.loop-b.b < c.args.self.now.outputs = omega (arith, c.loop-b-test.true) in (
      λ yes. absurd (false≢true yes),
      λ agree. sym c.if-not-bit_agrees.true
          ∙ c.bit_agrees.ensures.1 (λ x within. in_each_bit c.args.self.now c.args.s c.args.t x c.loop-b.b inside (agree x within)),
    )

pub returns : goal.returns
returns c = (
  λ _ x within.
      from_each_bit c.args.self.now c.args.s c.args.t x (λ b inside. c.loop-b.invariant b (omega (arith, inside, c.loop-b-test.false)) x within),
  λ _. refl,
)

pub returns-in-Some : goal.returns-in-Some
returns-in-Some c =
    let F = c.args.self.now in
    let first = subst (λ (H : KissFile). IsFoundInBits H c.args.s c.args.t H.outputs false c.in-Some.found) c.self.view_is c.in-Some.ensures in (
      λ none. all_agree F c.args.s c.args.t c.in-Some.found (c.is_none.ensures ∙ ap not none) (none_of_all F c.args.s c.args.t false c.in-Some.found first),
      λ agree. true_from_not c.is_none.result (sym c.is_none.ensures ∙ none_if_agree F c.args.s c.args.t c.in-Some.found first.some agree),
    )
