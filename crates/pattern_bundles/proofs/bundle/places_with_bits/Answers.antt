use Rattle.std.proofs.Common.{get_or, ap, inl, inr, sym, ◌∙◌, arith}
use Rattle.std.specs.Int.{bit_at}
use Rattle.std.proofs.lemmas.Bool.{cases_eq}
use Rattle.std.proofs.lemmas.Option.{get_or_from_slice_get, slice_get_within}
use Rattle.pattern_bundles.specs.declared.pattern.Pattern.{Pattern}
use Rattle.pattern_bundles.proofs.Words.{or_first, or_second}
use Rattle.pattern_bundles.proofs.bundle.places_with_bits.Goals as goal

pub loop-pattern-preserved : goal.loop-pattern-preserved
loop-pattern-preserved c = λ k place p is below cares.
    elim (cases_eq k c.loop-pattern.pattern-index) [
      | inl same ↦
          or_second c.loop-pattern.care _ place
          (let at = get_or_from_slice_get c.args.patterns.now k p (record { care = 0; value = 0 }) is in
          let here = ap (λ n. get_or c.args.patterns.now n (record { care = 0; value = 0 })) (sym same) ∙ at in
          ap (λ (q : Pattern). bit_at q.care place) here ∙ cares)
      | inr other ↦ or_first c.loop-pattern.care _ place (c.loop-pattern.invariant k place p is (omega (arith, below, other)) cares)
    ]

pub returns : goal.returns
returns c = λ k place p is cares.
    c.loop-pattern.invariant k place p is (let within = slice_get_within c.args.patterns.now k p is in let all = c.loop-pattern-test.false in omega (arith, within, all)) cares
