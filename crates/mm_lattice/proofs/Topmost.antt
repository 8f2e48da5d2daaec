-- The growth of zero over the right sides of two states is a greatest right side strictly below one.
use Rattle.std.proofs.Common.{◌≡◌, ℕ, ◌+◌, ◌<◌, ◌≤◌, ◌↔◌, inl, inr, List, length, refl, subst, arith}
use Rattle.std.proofs.lemmas.Bool.{cases_eq, cases_lt}
use Rattle.std.proofs.lemmas.List.Recursion.{max_least}
use Rattle.kiss_file.specs.declared.file.KissFile.{KissFile}
use Rattle.kiss_file.specs.Machine.{next}
use Rattle.partition.specs.Partition.{blocks_of, IsOne, IsPartition, IsStateCount, IsZero, Together, Le, zero_of}
use Rattle.partition.specs.Laws.Chains.{together_turned}
use Rattle.partition.specs.Laws.Extremes.{zero_of_is_partition, zero_of_is_zero}
use Rattle.partition.specs.Laws.Labels.{label-lt-blocks_of}
use Rattle.pair_operators.specs.Extremes.{IsHigh}
use Rattle.pair_operators.specs.Growth.{IsGrowth, NoneFits, pairs_of}
use Rattle.pair_operators.specs.Laws.Growth.{grown_keeps, grown_meets, growth_is_full}
use Rattle.pair_operators.specs.Laws.Pairs.{pair_monotone}
use Rattle.pair_operators.specs.Pair.{Pair}
use Rattle.mm_lattice.specs.Generators.{IsRightOf}
use Rattle.mm_lattice.specs.Inner.RightSides.{IsReached}
use Rattle.mm_lattice.specs.Top.{IsBelowOne, IsGreatestRight, IsRightSide, RightsAreTrivial}
use Rattle.partition.specs.Laws.Holds.{hold_below}
use Rattle.mm_lattice.proofs.Reached.{reached_join, reached_pair, reached_two, reached_zero}

-- the states of one block are all together
pub one_block : (p : List ℕ) → blocks_of p ≤ 1 → IsOne p
one_block p one s t in_s in_t = (in_s, in_t, omega (arith, label-lt-blocks_of p s in_s, label-lt-blocks_of p t in_t))

-- and where all are together there is one block
pub block_of_one : (n : ℕ) (p : List ℕ) → IsPartition n p → IsOne p → blocks_of p ≤ 1
block_of_one n p lawful one =
    max_least blocks_of (λ label. label + 1) refl (λ _ _. refl) p 0 1 (λ i within.
    let held = one i 0 within (omega (arith, lawful.count.0, lawful.length)) in
    omega (arith, held.2, lawful.numbered 0 (omega (arith, lawful.count.0, lawful.length))))

-- smaller partitions are strictly below one too
pub below_one_down : (n : ℕ) (p q : List ℕ) → IsPartition n p → IsPartition n q → Le q p → IsBelowOne p → IsBelowOne q
below_one_down n p q one two le below is_one =
    below (λ s t in_s in_t. le s t (is_one s t (omega (arith, in_s, one.length, two.length)) (omega (arith, in_t, one.length, two.length))))

module _ (F : KissFile) (count : IsStateCount (length F.states)) where
  -- where no right side of two states fits any more, no right side stands above
  none_above : (q : List ℕ) → IsPartition (length F.states) q → NoneFits (length F.states) (IsRightOf F) IsBelowOne q → (other : List ℕ) → IsRightSide F other → IsBelowOne other → Le q other → Le other q
  none_above q lawful full other (p, pair) below above = pair.low.least q lawful goes
    where
      goes_up : (s t : ℕ) → s < t → Together p s t → (x : List _) → length x ≡ F.inputs → Together q (next F s x) (next F t x)
      goes_up s t order held x width =
          let fits = full s t order (omega (arith, held.1, pair.high.lawful.length)) in
          let right = fits.1 in
          let hold : Le right.hold p = hold_below (length F.states) s t right.hold p right.holds pair.high.lawful.length held in
          let under : Le fits.0 other = right.low.least other pair.low.lawful (pair_monotone F p other right.hold other hold (λ u v h. h) pair.low.pair) in
          fits.2 other pair.low.lawful above under below (next F s x) (next F t x) (right.low.pair s t x right.holds.held width)

      goes : Pair F p q
      goes s t x held width =
          elim (cases_lt s t) [
            | inl less ↦ goes_up s t less held x width
            | inr more ↦ elim (cases_eq s t) [
              | inl same ↦
                  let stays = pair.low.pair s s x (held.0, held.0, refl) width in
                  let inside : next F s x < length q = omega (arith, stays.0, pair.low.lawful.length, lawful.length) in
                  subst (λ (k : ℕ). Together q (next F s x) (next F k x)) same (inside, inside, refl)
              | inr other' ↦ together_turned q (next F t x) (next F s x) (goes_up t s (omega arith) (together_turned p s t held) x width)
            ]
          ]

  pub grown_greatest : (q p : List ℕ) → IsGrowth (IsRightOf F) IsBelowOne (length F.states) (zero_of (length F.states)) q → IsHigh F q p → IsGreatestRight F q
  grown_greatest q p growth high =
      let zero = zero_of (length F.states) in
      let reached : IsReached F q =
      grown_keeps (length F.states) (IsRightOf F) IsBelowOne (IsReached F) (λ r s t g joined so_far is joins. reached_join F r g joined so_far (reached_two F s t g is) joins)
      zero q (pairs_of (length F.states)) (reached_zero F count) growth in
      record {
        right = (p, reached_pair F q p reached high);
        below = elim (cases_lt 1 (length F.states)) [
          | inl more ↦ inl (grown_meets (length F.states) (IsRightOf F) IsBelowOne zero q (pairs_of (length F.states)) (zero_below_one more) growth)
          | inr one ↦ inr (λ s t held. omega (arith, held.0, held.1, reached.lawful.length))
        ];
        greatest = none_above q reached.lawful (growth_is_full (length F.states) (IsRightOf F) IsBelowOne (λ s t g is. is.low.lawful) (below_one_down (length F.states)) zero q (zero_of_is_partition (length F.states) count) growth);
      }
    where
      zero_below_one : 1 < length F.states → IsBelowOne (zero_of (length F.states))
      zero_below_one more one =
          let size = (zero_of_is_partition (length F.states) count).length in
          omega (arith, zero_of_is_zero (length F.states) 0 1 (one 0 1 (omega (arith, size)) (omega (arith, size))))

  -- it is zero exactly where each right side is zero or one
  pub greatest_is_zero : (q : List ℕ) → IsGreatestRight F q → IsZero q ↔ RightsAreTrivial F
  greatest_is_zero q is = (
    (λ zero other right nontrivial.
        let above : Le q other = λ s t held.
        let inside : s < length other = omega (arith, held.0, q_size, right.1.low.lawful.length) in
        subst (λ (k : ℕ). Together other s k) (zero s t held) (inside, inside, refl) in
        nontrivial.0 (λ s t held. zero s t (is.greatest other right nontrivial.1 above s t held))),
    (λ trivial. elim is.below [
      | inl below ↦ (λ s t held. elim (cases_eq s t) [
        | inl same ↦ same
        | inr other ↦ absurd (trivial q is.right ((λ zero. other (zero s t held)), below))
      ])
      | inr zero ↦ zero
    ]),
  )
    where
      q_size : length q ≡ length F.states
      q_size = is.right.1.low.lawful.length
