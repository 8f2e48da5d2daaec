-- All values, and no more of them than a limit, leave no room for more than the limit.
use Rattle.std.proofs.Common.{◌≡◌, ℕ, zero, suc, ◌<◌, ◌≤◌, inl, inr, List, [], ◌∷◌, length, get_or, All, AllPairs, Contains, subst, sym, ◌∙◌, ap, arith}
use Rattle.std.proofs.lemmas.Bool.{cases_order}
use Rattle.std.proofs.lemmas.List.{get_or_default}
use Rattle.hs_lattice.specs.Listing.{Lists, Evidence}

-- a strict order of the values that fit
pub record StrictOrder {M : Type 0} (fits : M → Type 0) (precedes : M → M → Type 0) : Type 0 where
  pub irreflexive : (x : M) → fits x → precedes x x → ⊥
  pub transitive : (x y z : M) → fits x → fits y → fits z → precedes x y → precedes y z → precedes x z

-- where an ascending list stands among another, each of its values stands there at its own place or later
later :
    {M : Type 0} (fits : M → Type 0) (precedes : M → M → Type 0) (xs ys : List M) → StrictOrder fits precedes →
    AllPairs precedes xs → AllPairs precedes ys → All fits xs → ((k : ℕ) (d : M) → k < length ys → Contains xs (get_or ys k d)) →
    (i : ℕ) (d : M) → i < length ys → (at : Contains xs (get_or ys i d)) → i ≤ at.0
later fits precedes xs ys order ascending_x ascending_y fit among zero d lt at = omega arith
later {M} fits precedes xs ys order ascending_x ascending_y fit among (suc i) d lt at =
    let before : Contains xs (get_or ys i d) = among i d (omega arith) in
    let rest : i ≤ before.0 = later fits precedes xs ys order ascending_x ascending_y fit among i d (omega arith) before in
    let one : M = get_or ys i d in
    let two : M = get_or ys (suc i) d in
    let fit_one : fits one = subst fits before.2 (fit before.0 one before.1) in
    let fit_two : fits two = subst fits at.2 (fit at.0 two at.1) in
    let rises : precedes one two = ascending_y i (suc i) d (omega arith) lt in
    elim (cases_order before.0 at.0) [
      | inl same ↦
          let read : one ≡ two = sym before.2 ∙ (ap (λ (k : ℕ). get_or xs k one) same ∙ (get_or_default xs at.0 one two at.1 ∙ at.2)) in
          absurd (order.irreflexive one fit_one (subst (precedes one) (sym read) rises))
      | inr apart ↦ elim apart [
        | inl below ↦ omega arith
        | inr above ↦
            let falls : precedes two one = subst (λ (x : M). precedes x one) (get_or_default xs at.0 one two at.1 ∙ at.2) (subst (precedes (get_or xs at.0 one)) before.2 (ascending_x at.0 before.0 one above before.1)) in
            absurd (order.irreflexive one fit_one (order.transitive one two one fit_one fit_two fit_one rises falls))
      ]
    ]

pub few_exclude_more :
    {M : Type 0} (fits : M → Type 0) (precedes : M → M → Type 0) (P : M → Type 0) (xs ys : List M) (limit : ℕ) → StrictOrder fits precedes →
    All fits xs → Lists precedes P xs → length xs ≤ limit → Evidence precedes P limit ys → ⊥
few_exclude_more fits precedes P xs [] limit order fit lists few evidence = absurd (omega (arith, evidence.more))
few_exclude_more {M} fits precedes P xs (y ∷ rest) limit order fit lists few evidence =
    let ys : List M = y ∷ rest in
    let stands : (k : ℕ) (d : M) → k < length ys → Contains xs (get_or ys k d) = λ k d lt. lists.complete (get_or ys k d) (evidence.members k d lt) in
    let last : limit < length ys = omega (arith, evidence.more) in
    let at : Contains xs (get_or ys limit y) = stands limit y last in
    let place : limit ≤ at.0 = later fits precedes xs ys order lists.ascending evidence.ascending fit stands limit y last at in
    omega (arith, place, at.1, few)
