use Rattle.std.proofs.Common.{◌∙◌, ℕ, All, get_or, ap, subst, sym, refl, arith}
use Rattle.std.proofs.lemmas.Bool.{true≢false}
use Rattle.std.proofs.lemmas.List.{take_all}
use Rattle.std.proofs.lemmas.List.Elements.{All-more}
use Rattle.cubes.specs.Symbol.{bit}
use Rattle.machine_table.specs.Pairs.{HaveOneBit}
use Rattle.least_codes.proofs.table.keeps_bit.Goals as goal

pub loop-image-preserved : goal.loop-image-preserved
loop-image-preserved c =
    let same : HaveOneBit c.args.words.now c.args.i c.from.result c.from-in-loop-image.result = c.have_one_bit.ensures.0 c.if-not-have_one_bit.false in
    All-more (λ (image : ℕ × ℕ). HaveOneBit c.args.words.now c.args.i image.0 image.1) c.deref-image-items.result.now c.loop-image.image-index (0, 0) c.loop-image-test.true c.loop-image.invariant
    (ap (λ (u : ℕ). bit (get_or c.args.words.now u 0) c.args.i) (sym c.from.ensures) ∙ same ∙ ap (λ (u : ℕ). bit (get_or c.args.words.now u 0) c.args.i) c.from-in-loop-image.ensures)

pub returns-then-not-have_one_bit : goal.returns-then-not-have_one_bit
returns-then-not-have_one_bit c = (
  (λ is. absurd (true≢false (sym is))),
  (λ keeps.
      let lent : All (λ (image : ℕ × ℕ). HaveOneBit c.args.words.now c.args.i image.0 image.1) c.deref-image-items.result.now =
      subst (All (λ (image : ℕ × ℕ). HaveOneBit c.args.words.now c.args.i image.0 image.1)) (sym c.deref-image-items.ensures.value) keeps in
      let same : HaveOneBit c.args.words.now c.args.i c.from.result c.from-in-loop-image.result =
      ap (λ (u : ℕ). bit (get_or c.args.words.now u 0) c.args.i) c.from.ensures ∙ lent c.loop-image.image-index (0, 0) c.loop-image-test.true ∙ ap (λ (u : ℕ). bit (get_or c.args.words.now u 0) c.args.i) (sym c.from-in-loop-image.ensures) in
      absurd (true≢false (sym (c.have_one_bit.ensures.1 same) ∙ c.if-not-have_one_bit.true))),
)

pub returns : goal.returns
returns c = (
  (λ is. subst (All (λ (image : ℕ × ℕ). HaveOneBit c.args.words.now c.args.i image.0 image.1)) c.deref-image-items.ensures.value
      (subst (All (λ (image : ℕ × ℕ). HaveOneBit c.args.words.now c.args.i image.0 image.1)) (take_all c.loop-image.image-index c.deref-image-items.result.now (omega arith)) c.loop-image.invariant)),
  (λ keeps. refl),
)
