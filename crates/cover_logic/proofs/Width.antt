use Rattle.std.proofs.Common.{◌≡◌, ℕ, ◌/◌, ◌%◌, ◌<◌, ◌^◌, ◌∙◌, suc, take, drop, List, get_or, sym, ap, subst}
use Rattle.std.specs.Int.{bit_at}
use Rattle.std.specs.List.{All, remove}
use Rattle.std.proofs.Math.Nat.{mod-lt}
use Rattle.std.proofs.lemmas.Nat.{pow_pos, div-add-mod'}
use Rattle.std.proofs.lemmas.Nat.Bits.{bit_at_cat_low}
use Rattle.std.proofs.lemmas.List.{append-nil}
use Rattle.std.proofs.lemmas.List.Elements.{All-append, All-contains, All-drop, All-take, Contains-get_or}
use Rattle.cover_terms.specs.Laws.Bits.{below_width}
use Rattle.cover_terms.specs.declared.term.Term.{Term}
use Rattle.cover_terms.specs.Term.{FitsWidth, Holds, HoldsWithDash, IsCovered}
use Rattle.cover_logic.specs.TermCover.{ShareNoValue, IsTermCover}
use Rattle.cover_terms.specs.Lists.{HasSameValues}
use Rattle.cover_logic.specs.Inner.Rows.{AreNeededPrimes, IsClear}
use Rattle.cover_terms.specs.Laws.Values.{covered_back}

-- where a value and its lowest `width` bits are the same
same_below : (width x column : ℕ) → column < width → bit_at (x % 2 ^ width) column ≡ bit_at x column
same_below width x column h =
    sym (bit_at_cat_low (x / 2 ^ width) width (x % 2 ^ width) column h) ∙ ap (λ n. bit_at n column) (div-add-mod' x (2 ^ width))

pub low_is_value : (width x : ℕ) → x % 2 ^ width < 2 ^ width
low_is_value width x = mod-lt x (pow_pos width)

-- a term holds a value where it holds its lowest bits
pub holds_low : (width : ℕ) (t : Term) → FitsWidth width t → (x : ℕ) → Holds t x → Holds t (x % 2 ^ width)
unfolding Holds
holds_low width t fits x p column l = same_below width x column (below_width width t.care column fits l) ∙ p column l

holds_from_low : (width : ℕ) (t : Term) → FitsWidth width t → (x : ℕ) → Holds t (x % 2 ^ width) → Holds t x
unfolding Holds
holds_from_low width t fits x p column l = sym (same_below width x column (below_width width t.care column fits l)) ∙ p column l

dash_low : (width : ℕ) (t : Term) → FitsWidth width t → (dash x : ℕ) → HoldsWithDash t dash x → HoldsWithDash t dash (x % 2 ^ width)
unfolding HoldsWithDash
dash_low width t fits dash x p column ne l = same_below width x column (below_width width t.care column fits l) ∙ p column ne l

pub held_low : (width : ℕ) (terms : List Term) → All (FitsWidth width) terms → (x : ℕ) → IsCovered terms x → IsCovered terms (x % 2 ^ width)
held_low width terms fits x h = (h.0, h.1, holds_low width h.0 (All-contains (FitsWidth width) terms h.0 fits h.1) x h.2)

pub held_from_low : (width : ℕ) (terms : List Term) → All (FitsWidth width) terms → (x : ℕ) → IsCovered terms (x % 2 ^ width) → IsCovered terms x
held_from_low width terms fits x h = (h.0, h.1, holds_from_low width h.0 (All-contains (FitsWidth width) terms h.0 fits h.1) x h.2)

-- each term of on is clear of off
pub clear_from_apart : (width : ℕ) (on off : List Term) → All (FitsWidth width) on → All (FitsWidth width) off → ShareNoValue width on off → All (IsClear off) on
clear_from_apart width on off fits off_fits apart = λ k d h x p held.
    let t = get_or on k d in
    apart (x % 2 ^ width) (low_is_value width x)
    (held_low width on fits x (t, Contains-get_or on k d h, p)) (held_low width off off_fits x held)

-- and then no value is in both
pub apart_from_clear : (width : ℕ) (on off : List Term) → All (IsClear off) on → ShareNoValue width on off
apart_from_clear width on off clear = λ x h held off_held. All-contains (IsClear off) on held.0 clear held.1 x held.2 off_held

-- rows that are needed and that need each of their literals are a good cover; on and off may be told by other lists
-- with the same values
pub good_cover : (width : ℕ) (rows on off ones zeros : List Term) → HasSameValues on ones → HasSameValues off zeros → All (FitsWidth width) on → All (FitsWidth width) off → AreNeededPrimes ones zeros width rows → IsTermCover width rows on off
good_cover width rows on off ones zeros same_on same_off on_fits off_fits p = record {
  on_held = λ x h held. p.primes.covers x (same_on.covers x held);
  off_free = λ x h off_held held. All-contains (IsClear zeros) rows held.0 p.primes.clear held.1 x held.2 (same_off.covers x off_held);
  literals_needed = λ k d h column l.
      let w = p.primes.prime k d h column l in
      (w.0 % 2 ^ width, low_is_value width w.0, held_low width off off_fits w.0 (covered_back off zeros same_off w.0 w.1), dash_low width (get_or rows k d) (p.primes.fits k d h) column w.0 w.2);
  rows_needed = λ i h.
      let w = p.needed i h in
      let P : List Term → Type 0 = λ ts. IsCovered ts w.0 in (
        w.0 % 2 ^ width,
        low_is_value width w.0,
        held_low width on on_fits w.0 (covered_back on ones same_on w.0 w.1),
        λ held. w.2 (subst P (sym (append-nil (remove rows i))) (held_from_low width (remove rows i) (rest_fits i) w.0 held)),
      );
}
  where
    rest_fits : (i : ℕ) → All (FitsWidth width) (remove rows i)
    rest_fits i = All-append (FitsWidth width) (take i rows) (drop (suc i) rows) (All-take (FitsWidth width) i rows p.primes.fits) (All-drop (FitsWidth width) (suc i) rows p.primes.fits)

-- what is clear of off is clear of another list with the same values
pub clear_of_same : (off zeros terms : List Term) → HasSameValues off zeros → All (IsClear off) terms → All (IsClear zeros) terms
clear_of_same off zeros terms same clear = λ k d below x p held. clear k d below x p (covered_back off zeros same x held)
