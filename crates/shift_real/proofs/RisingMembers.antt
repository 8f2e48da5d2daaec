-- The chain, a member more at a time.
use Rattle.std.proofs.Common.{◌≡◌, ℕ, zero, suc, ◌+◌, ◌-◌, ◌<◌, ◌≤◌, ◌⊎◌, inl, inr, Some, List, [], ◌∷◌, ◌++◌, length, slice_get, refl, ap, sym, ◌∙◌, subst, arith, length-append}
use Rattle.std.proofs.lemmas.Option.{slice_get_within}
use Rattle.list_facts.specs.Laws.Places.{get_behind, get_cases, get_first}
use Rattle.partition.specs.Laws.Blocks.{strictly_fewer}
use Rattle.kiss_file.specs.declared.file.KissFile.{KissFile}
use Rattle.machine_table.specs.NextStates.{NeverLeaves}
use Rattle.pair_operators.specs.Extremes.{IsHigh}
use Rattle.partition.specs.Laws.Labels.{blocks_of-le, label-lt-blocks_of, same_labels}
use Rattle.partition.specs.Partition.{IsPartition, IsZero, Le, Lt, blocks_of}
use Rattle.shift_real.specs.Chain.{IsChain, TellsAfter}
use Rattle.shift_real.specs.Inner.RisingChain.{IsRising, IsRisingTo}
use Rattle.shift_real.proofs.Telling.{high_tells, tells_below, zero_tells}

-- ---- the last of a list
sole : {X : Type 0} (x y : X) (k : ℕ) → slice_get (x ∷ []) k ≡ Some y → (k ≡ 0) × (x ≡ y)
sole x y zero is = (refl, cc)
sole x y (suc k) is = absurd (cc)

last_there : {X : Type 0} (xs : List X) (x : X) → slice_get (xs ++ x ∷ []) (length xs) ≡ Some x
last_there xs x = let e : length xs ≡ length xs + 0 = omega arith in ap (slice_get (xs ++ x ∷ [])) e ∙ get_behind xs (x ∷ []) 0

-- an item is one of the others, or it is the last
one_of : {X : Type 0} (xs : List X) (x y : X) (k : ℕ) → slice_get (xs ++ x ∷ []) k ≡ Some y → (slice_get xs k ≡ Some y) ⊎ ((k ≡ length xs) × (x ≡ y))
one_of xs x y k is =
    elim (get_cases xs (x ∷ []) k y is) [
      | inl first ↦ inl first
      | inr behind ↦
          let alone = sole x y behind.0 behind.2 in
          inr ((let place = behind.1 in let none = alone.0 in omega arith), alone.1)
    ]

before_last : {X : Type 0} (xs : List X) (x y : X) (k : ℕ) → k < length xs → slice_get (xs ++ x ∷ []) k ≡ Some y → slice_get xs k ≡ Some y
before_last xs x y k lt is =
    elim (one_of xs x y k is) [
      | inl first ↦ first
      | inr last ↦ absurd (let place = last.0 in omega arith)
    ]

same_item : {X : Type 0} (xs : List X) (k : ℕ) (x y : X) → slice_get xs k ≡ Some x → slice_get xs k ≡ Some y → x ≡ y
same_item xs k x y one other = let both : Some x ≡ Some y = sym one ∙ other in cc

-- ---- zero alone
pub rising_first : (F : KissFile) (zero' : List ℕ) → IsPartition (length F.states) zero' → IsZero zero' → IsRising F [] zero'
rising_first F zero' lawful none = record {
  first = (zero', refl, lawful, none);
  each = λ j p q at behind. absurd (let place = (sole zero' q (j + 1) behind).0 in omega arith);
  tell = λ j p at.
      let alone = sole zero' p j at in
      subst (λ (r : List ℕ). IsPartition (length F.states) r × TellsAfter F j r) alone.1
      (lawful, subst (λ (n : ℕ). TellsAfter F n zero') (sym alone.0) (zero_tells F zero' lawful none));
}

-- as many blocks as states at most
pub few_first : (F : KissFile) (members : List (List ℕ)) (zero' : List ℕ) → members ≡ [] → IsPartition (length F.states) zero' → length members + blocks_of zero' ≤ length F.states
few_first F members zero' none lawful = omega (arith, ap length none, blocks_of-le zero' lawful.numbered, lawful.length)

-- ---- a member more
module _ (F : KissFile) (members : List (List ℕ)) (last next : List ℕ) (stays : NeverLeaves F) (so_far : IsRisingTo F members last next) where
  abbrev all : List (List ℕ)
  all = members ++ last ∷ []

  last_tells : IsPartition (length F.states) last × TellsAfter F (length members) last
  last_tells = so_far.rising.tell (length members) last (last_there members last)

  next_tells : TellsAfter F (length members + 1) next
  next_tells = high_tells F (length members) last next stays last_tells.0 so_far.high last_tells.1

  pub last_lawful : IsPartition (length F.states) last
  last_lawful = last_tells.0

  pub last_below : Le last next
  last_below = tells_below F (length members) last next last_tells.0 last_tells.1 next_tells

  above_last : (next ≡ last → ⊥) → Le next last → ⊥
  above_last other above = other (same_labels next last so_far.high.lawful.numbered last_tells.0.numbered (so_far.high.lawful.length ∙ sym last_tells.0.length) (λ s t. (above s t, last_below s t)))

  -- fewer blocks, where it is another
  pub fewer : (next ≡ last → ⊥) → blocks_of next < blocks_of last
  fewer other =
      strictly_fewer (length F.states) last next last_tells.0 so_far.high.lawful last_below (above_last other)

  count : length all ≡ length members + 1
  count = omega (arith, length-append members (last ∷ []))

  pub few_more : (next ≡ last → ⊥) → length all + blocks_of next ≤ length F.states
  few_more other = omega (arith, count, fewer other, so_far.few)

  pub few_whole : 0 < length F.states → length all ≤ length F.states
  few_whole some = omega (arith, count, so_far.few, label-lt-blocks_of last 0 (omega (arith, some, last_tells.0.length)))

  pub rising_more : (next ≡ last → ⊥) → IsRising F all next
  rising_more other = record {
    first = (so_far.rising.first.0, get_first all (next ∷ []) 0 so_far.rising.first.0 so_far.rising.first.1, so_far.rising.first.2, so_far.rising.first.3);
    each = λ j p q at behind.
        elim (one_of all next q (j + 1) behind) [
          | inl here ↦ so_far.rising.each j p q (before_last all next p j (let lt = slice_get_within all (j + 1) q here in omega arith) at) here
          | inr there ↦
              let place : j ≡ length members = (let e = there.0 in omega (arith, count, e)) in
              let old : slice_get all j ≡ Some p = before_last all next p j (omega (arith, place, count)) at in
              let is_last : last ≡ p = same_item all (length members) last p (last_there members last) (ap (slice_get all) (sym place) ∙ old) in
              subst (λ (r : List ℕ). IsHigh F r q × Lt r q) is_last
              (subst (λ (r : List ℕ). IsHigh F last r × Lt last r) there.1 (so_far.high, (last_below, above_last other)))
        ];
    tell = λ j p at.
        elim (one_of all next p j at) [
          | inl here ↦ so_far.rising.tell j p here
          | inr there ↦
              let place : length members + 1 ≡ j = (let e = there.0 in omega (arith, count, e)) in
              subst (λ (r : List ℕ). IsPartition (length F.states) r × TellsAfter F j r) there.1
              (so_far.high.lawful, subst (λ (n : ℕ). TellsAfter F n next) place next_tells)
        ];
  }

  pub chain_whole : next ≡ last → IsChain F all
  chain_whole same = record {
    first = so_far.rising.first;
    each = so_far.rising.each;
    last = (
      last,
      (let e : length all - 1 ≡ length members = omega (arith, count) in ap (slice_get all) e ∙ last_there members last),
      subst (IsHigh F last) same so_far.high,
    );
  }
