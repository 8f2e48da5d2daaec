-- The table of first states.
use Rattle.std.proofs.Common.{◌≡◌, ◌≢◌, ◌∙◌, ℕ, ◌+◌, ◌<◌, ◌%◌, List, Option, Some, None, length, get_or, set, replicate, refl, inl, inr, ap, sym, subst, arith, bit_and}
use Rattle.std.proofs.Math.ListN.{length-set}
use Rattle.std.proofs.lemmas.Bool.{cases_eq}
use Rattle.std.proofs.lemmas.List.{get_or-replicate, get_or-set_other, get_or-set_same, length-replicate}
use Rattle.std.proofs.lemmas.Option.{get_or_from_slice_get, same_Some, slice_get-get_or, slice_get_within}
use Rattle.std.specs.List.{slice_get}
use Rattle.dependence.specs.Inner.LikeStates.{AreFirsts, IsFirstLike, place_in}

module _ (words : List ℕ) (mask : ℕ) (firsts : List (Option ℕ)) (s : ℕ) (are : AreFirsts words mask firsts s) where
  -- the state at the place of s, where it has the same bits
  pub first_there : (first : ℕ) → slice_get firsts (place_in words mask s) ≡ Some (Some first) → bit_and (get_or words first 0) mask ≡ bit_and (get_or words s 0) mask → IsFirstLike words mask s first
  first_there first at like =
      let is = are.each (place_in words mask s) first at in
      record {
        among = omega (arith, is.0);
        like = like;
        before = λ u below same. is.1.before u below (same ∙ sym like);
      }

  -- no state has the bits of s, where none stands at their place
  pub first_alone : slice_get firsts (place_in words mask s) ≡ Some None → IsFirstLike words mask s s
  first_alone at = record {
    among = omega arith;
    like = refl;
    before = λ u below same.
        let known = are.taken u below in
        let here : slice_get firsts (place_in words mask s) ≡ Some (Some known.0) = ap (λ n. slice_get firsts (n % 509)) (sym same) ∙ known.1 in
        none_or_some known.0 (same_Some None (Some known.0) (sym at ∙ here));
  } where
    none_or_some : (first : ℕ) → None ≡ Some first → ⊥
    none_or_some first is = cc

  -- one stands at the place of s
  pub firsts_taken : (first : ℕ) → slice_get firsts (place_in words mask s) ≡ Some (Some first) → AreFirsts words mask firsts (s + 1)
  firsts_taken first at = record {
    each = λ place known is. let it = are.each place known is in (omega (arith, it.0), it.1);
    taken = λ t below. elim (cases_eq t s) [
      | inl here ↦ (first, ap (λ (k : ℕ). slice_get firsts (place_in words mask k)) here ∙ at)
      | inr other ↦ are.taken t (omega (arith, below, other))
    ];
  }

  -- s itself is put there
  pub firsts_placed : slice_get firsts (place_in words mask s) ≡ Some None → AreFirsts words mask (set firsts (place_in words mask s) (Some s)) (s + 1)
  firsts_placed at = record {
    each = λ place known is. elim (cases_eq place (place_in words mask s)) [
      | inl here ↦
          let it : Some s ≡ Some known = sym (get_or-set_same firsts (place_in words mask s) (Some s) None within) ∙ ap (λ (k : ℕ). get_or (set firsts (place_in words mask s) (Some s)) k None) (sym here) ∙ get_or_from_slice_get (set firsts (place_in words mask s) (Some s)) place (Some known) None is in
          let same : s ≡ known = same_Some s known it in
          (omega (arith, same), subst (λ (k : ℕ). IsFirstLike words mask k k) same (first_alone at))
      | inr other ↦
          let inside : place < length firsts = omega (arith, size, slice_get_within (set firsts (place_in words mask s) (Some s)) place (Some known) is) in
          let old : slice_get firsts place ≡ Some (Some known) =
          slice_get-get_or firsts place None inside ∙ ap Some (sym (get_or-set_other firsts (place_in words mask s) place (Some s) None other) ∙ get_or_from_slice_get (set firsts (place_in words mask s) (Some s)) place (Some known) None is) in
          let it = are.each place known old in
          (omega (arith, it.0), it.1)
    ];
    taken = λ t below. elim (cases_eq (place_in words mask t) (place_in words mask s)) [
      | inl here ↦ (s, ap (λ (k : ℕ). slice_get (set firsts (place_in words mask s) (Some s)) k) here ∙ slice_get-get_or (set firsts (place_in words mask s) (Some s)) (place_in words mask s) None (omega (arith, size, within)) ∙ ap Some (get_or-set_same firsts (place_in words mask s) (Some s) None within))
      | inr other ↦
          let earlier : t ≢ s = λ same. other (ap (place_in words mask) same) in
          let known = are.taken t (omega (arith, below, earlier)) in
          let inside : place_in words mask t < length firsts = slice_get_within firsts (place_in words mask t) (Some known.0) known.1 in
          (known.0, slice_get-get_or (set firsts (place_in words mask s) (Some s)) (place_in words mask t) None (omega (arith, size, inside)) ∙ ap Some (get_or-set_other firsts (place_in words mask s) (place_in words mask t) (Some s) None other ∙ get_or_from_slice_get firsts (place_in words mask t) (Some known.0) None known.1))
    ];
  } where
    within : place_in words mask s < length firsts
    within = slice_get_within firsts (place_in words mask s) None at

    size : length (set firsts (place_in words mask s) (Some s)) ≡ length firsts
    size = length-set firsts (place_in words mask s) (Some s)

-- no state stands in a new table
pub firsts_none : (words : List ℕ) (mask count : ℕ) → AreFirsts words mask (replicate count None) 0
firsts_none words mask count = record {
  each = λ place first is.
      let inside : place < count = omega (arith, length-replicate {A = Option ℕ} count None, slice_get_within (replicate count None) place (Some first) is) in
      absurd (none_or_some first (sym (get_or-replicate count place None None inside) ∙ get_or_from_slice_get (replicate count None) place (Some first) None is));
  taken = λ s below. absurd (omega (arith, below));
} where
  none_or_some : (first : ℕ) → None ≡ Some first → ⊥
  none_or_some first is = cc

-- what is read at a place of the table
pub read_at : (firsts : List (Option ℕ)) (place bits : ℕ) (entry : Option ℕ) → length firsts ≡ 509 → place ≡ bits % 509 → get_or firsts place None ≡ entry → slice_get firsts (bits % 509) ≡ Some entry
read_at firsts place bits entry size at is =
    let inside : place < length firsts = omega (arith, at, size) in
    subst (λ (k : ℕ). slice_get firsts k ≡ Some entry) at (slice_get-get_or firsts place None inside ∙ ap Some is)
