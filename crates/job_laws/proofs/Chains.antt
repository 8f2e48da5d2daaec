-- There is one chain of a machine.
use Rattle.std.proofs.Common.{◌≡◌, ◌∙◌, ℕ, zero, suc, ◌+◌, ◌-◌, ◌<◌, ◌≤◌, inl, inr, List, Some, length, slice_get, refl, sym, ap, subst, arith}
use Rattle.std.proofs.lemmas.Bool.{cases_order}
use Rattle.std.proofs.lemmas.Option.{same_Some, slice_get_within}
use Rattle.decomposition.specs.Laws.Lists.{same_items}
use Rattle.kiss_file.specs.declared.file.KissFile.{KissFile}
use Rattle.list_facts.specs.Laws.Places.{item_at}
use Rattle.pair_operators.specs.Extremes.{IsHigh}
use Rattle.pair_operators.specs.Laws.Extremes.{high_once}
use Rattle.partition.specs.Laws.Labels.{same_labels}
use Rattle.partition.specs.Partition.{IsPartition, IsZero, Le, Together}
use Rattle.shift_real.specs.Chain.{IsChain}

-- there is one partition of so many states that is zero
zero_once : (n : ℕ) (p q : List ℕ) → IsPartition n p → IsPartition n q → IsZero p → IsZero q → p ≡ q
zero_once n p q lawful also one two =
    same_labels p q lawful.numbered also.numbered (lawful.length ∙ sym also.length) (λ s t. (
      (λ held. let in_s : s < length q = omega (arith, held.0, lawful.length, also.length) in subst (λ (u : ℕ). Together q s u) (one s t held) (in_s, in_s, refl)),
      (λ held. let in_s : s < length p = omega (arith, held.0, lawful.length, also.length) in subst (λ (u : ℕ). Together p s u) (two s t held) (in_s, in_s, refl)),
    ))

module _ (F : KissFile) (members others : List (List ℕ)) (one : IsChain F members) (two : IsChain F others) where
  -- members at one place
  at_place : (j : ℕ) (p q : List ℕ) → slice_get members j ≡ Some p → slice_get others j ≡ Some q → p ≡ q
  at_place zero p q there there_too =
      let (first, at, lawful, is) = one.first in
      let (other, at_too, lawful_too, is_too) = two.first in
      same_Some p first (sym there ∙ at)
      ∙ (zero_once (length F.states) first other lawful lawful_too is is_too ∙ sym (same_Some q other (sym there_too ∙ at_too)))
  at_place (suc j) p q there there_too =
      let next : suc j ≡ j + 1 = omega arith in
      let before = item_at members j (omega (arith, slice_get_within members (suc j) p there)) in
      let earlier = item_at others j (omega (arith, slice_get_within others (suc j) q there_too)) in
      let same : earlier.0 ≡ before.0 = sym (at_place j before.0 earlier.0 before.1 earlier.1) in
      let up = one.each j before.0 p before.1 (subst (λ (k : ℕ). slice_get members k ≡ Some p) next there) in
      let up_too = two.each j earlier.0 q earlier.1 (subst (λ (k : ℕ). slice_get others k ≡ Some q) next there_too) in
      high_once F before.0 p q up.0 (subst (λ (r : List ℕ). IsHigh F r q) same up_too.0)

  -- a chain does not go on after the last member of another
  no_longer : length members < length others → ⊥
  no_longer less =
      let (p, at, high) = one.last in
      let (first, start, lawful, is) = one.first in
      let some : 0 < length members = slice_get_within members 0 first start in
      let here = item_at others (length members - 1) (omega (arith, less)) in
      let beyond = item_at others (length members - 1 + 1) (omega (arith, less, some)) in
      let same : p ≡ here.0 = at_place (length members - 1) p here.0 at here.1 in
      let up = two.each (length members - 1) here.0 beyond.0 here.1 beyond.1 in
      let stays : p ≡ beyond.0 = high_once F p p beyond.0 high (subst (λ (r : List ℕ). IsHigh F r beyond.0) (sym same) up.0) in
      up.1.1 (subst (λ (r : List ℕ). Le r here.0) stays (subst (λ (r : List ℕ). Le p r) same (λ s t held. held)))

pub chain_once : (F : KissFile) (members others : List (List ℕ)) → IsChain F members → IsChain F others → members ≡ others
chain_once F members others one two =
    let as_many : length members ≡ length others =
    elim (cases_order (length members) (length others)) [
      | inl same ↦ same
      | inr (inl less) ↦ absurd (no_longer F members others one two less)
      | inr (inr more) ↦ absurd (no_longer F others members two one more)
    ] in
    same_items members others as_many (λ j p q there there_too. at_place F members others one two j p q there there_too)
