use Rattle.std.proofs.Common.{ℕ, ◌≡◌, ◌<◌, List, All, Contains, Some, length, get_or, sym, subst, inl, inr, arith}
use Rattle.std.proofs.lemmas.Bool.{cases_lt}
use Rattle.std.proofs.lemmas.Option.{slice_get_within}
use Rattle.kiss_file.specs.declared.file.KissRow.{KissRow}
use Rattle.state_rows.specs.declared.bundles.RowBundle.{RowBundle}
use Rattle.state_rows.specs.Conflict.{ContradictAt}
use Rattle.state_rows.specs.Bundles.{IsComparable, IsFirstAgainst, IsInBundles}
use Rattle.state_rows.specs.Laws.Lists.{bundles_at}
use Rattle.state_rows.proofs.Against.{comparable, earlier_among, first_two, row_at}
use Rattle.state_rows.proofs.contradiction.first_conflict.Goals as goal

-- the state of the row that is read is one of the states
in_states : (rows : List KissRow) (states i : ℕ) (row : KissRow) → All (λ row. row.from < states) rows → i < length rows → row ≡ get_or rows i row → row.from < states
in_states rows states i row lawful inside is = subst (λ (r : KissRow). r.from < states) (sym is) (lawful i row inside)

pub returns-in-Some-clause-some : goal.returns-in-Some-clause-some
returns-in-Some-clause-some c =
    let rows = c.args.rows.now in
    let bundles = c.args.bundles.now in
    let row = c.index-rows-number.result in
    let inside = in_states rows (length bundles) c.loop-number.number row c.requires.states c.loop-number-test.true c.index-rows-number.is in
    let at = row_at rows c.loop-number.number row c.loop-number-test.true c.index-rows-number.is in
    let list = bundles_at bundles row.from c.from.result c.index-bundles-from.result c.as_slice-own.result.now inside c.from.ensures c.index-bundles-from.is c.as_slice-own.ensures in
    first_two rows bundles c.requires.bundles c.in-Some.earlier c.loop-number.number row c.in-Some.ensures.below at
    (subst (λ (own : List RowBundle). IsFirstAgainst rows (IsInBundles own) c.loop-number.number row (Some c.in-Some.earlier)) list
    (c.in-Some.ensures.found rows
    (subst (λ (own : List RowBundle). (bundle : RowBundle) → Contains own bundle → IsComparable rows row bundle) (sym list)
    (comparable rows bundles c.requires.bundles c.requires.fit c.loop-number.number row at))))
    c.loop-number.invariant

pub loop-number-preserved : goal.loop-number-preserved
loop-number-preserved c i j before below pair =
    elim (cases_lt j c.loop-number.number) [
      | inl lower ↦ c.loop-number.invariant i j before lower pair
      | inr now ↦
          let rows = c.args.rows.now in
          let bundles = c.args.bundles.now in
          let row = c.index-rows-number.result in
          let inside = in_states rows (length bundles) c.loop-number.number row c.requires.states c.loop-number-test.true c.index-rows-number.is in
          let at = row_at rows c.loop-number.number row c.loop-number-test.true c.index-rows-number.is in
          let list = bundles_at bundles row.from c.from.result c.index-bundles-from.result c.as_slice-own.result.now inside c.from.ensures c.index-bundles-from.is c.as_slice-own.ensures in
          let same : j ≡ c.loop-number.number = omega arith in
          let earlier : i < c.loop-number.number = omega arith in
          let among = earlier_among rows bundles c.requires.bundles i c.loop-number.number row earlier at (subst (λ (n : ℕ). ContradictAt rows i n) same pair) in
          let found = c.in_default.ensures.found rows
          (subst (λ (own : List RowBundle). (bundle : RowBundle) → Contains own bundle → IsComparable rows row bundle) (sym list)
          (comparable rows bundles c.requires.bundles c.requires.fit c.loop-number.number row at)) in
          found.least i (subst (λ (own : List RowBundle). IsInBundles own i) (sym list) among.0) earlier among.1
    ]

pub returns-clause-none : goal.returns-clause-none
returns-clause-none c i j before pair =
    let later = pair.1 in
    c.loop-number.invariant i j before (omega (arith, slice_get_within c.args.rows.now j later pair.3, c.loop-number-test.false)) pair
