use Rattle.std.proofs.Common.{ℕ, ◌≡◌, ◌+◌, ◌++◌, ◌∷◌, [], length, get_or, refl, sym, ap, ◌∙◌, subst, arith}
use Rattle.std.proofs.lemmas.Option.{slice_get_read}
use Rattle.pattern_bundles.specs.declared.pattern.Pattern.{Pattern}
use Rattle.state_rows.specs.Bundles.{ArePatterns}
use Rattle.state_rows.proofs.RowBundles.{patterns_more}
use Rattle.state_rows.proofs.bundles.patterns_of.Goals as goal

pub loop-number-preserved : goal.loop-number-preserved
loop-number-preserved c =
    let rows = c.args.rows.now in
    let numbers = c.args.numbers.now in
    let i = c.loop-number.number-index in
    let patterns = c.loop-number.patterns.items in
    let row = c.index-rows-number.result in
    let number = get_or numbers i 0 in
    let at_row = slice_get_read rows (length rows) number row refl (c.requires.inside i 0 c.loop-number-test.true) c.index-rows-number.is in
    let pushed = c.in_ok-push.ensures.items ∙ ap (λ (p : Pattern). patterns ++ p ∷ []) c.pattern_of.ensures in
    subst (ArePatterns c.args.aspect rows numbers (i + 1)) (sym pushed) (patterns_more c.args.aspect rows numbers i patterns row c.loop-number.invariant at_row)

pub returns : goal.returns
returns c =
    let all : c.loop-number.number-index ≡ length c.args.numbers.now = omega (arith, c.loop-number-test.false, c.loop-number.auto.number-index-end) in
    subst (ArePatterns c.args.aspect c.args.rows.now c.args.numbers.now (length c.args.numbers.now)) (sym (c.in_ok-bundle.ensures ∙ c.deref.ensures.value))
    (subst (λ (n : ℕ). ArePatterns c.args.aspect c.args.rows.now c.args.numbers.now n c.loop-number.patterns.items) all c.loop-number.invariant)
