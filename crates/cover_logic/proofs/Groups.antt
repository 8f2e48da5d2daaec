use Rattle.std.proofs.Common.{◌≡◌, ◌↔◌, ℕ, zero, suc, ◌+◌, ◌-◌, ◌*◌, ◌%◌, ◌^◌, ◌<◌, ◌≤◌, ◌∙◌, false, bit_and, min, List, [], ◌∷◌, ◌++◌, length, get_or, set, ap, sym, subst, refl, ◌⊎◌, inl, inr, ⊎_elim, arith, get_or-set_same, get_or-set_other}
use Rattle.std.specs.Int.{bit_at, bit_not, w128}
use Rattle.std.specs.List.{Contains}
use Rattle.std.proofs.Math.ListN.{length-set}
use Rattle.std.proofs.lemmas.Bool.{false≢true, cases_Bool, cases_eq}
use Rattle.std.proofs.lemmas.List.{get_or_default}
use Rattle.std.proofs.lemmas.List.Elements.{Contains-append_cases, Contains-append_left, Contains-append_right, Contains-get_or, Contains-push, Contains-push_cases}
use Rattle.std.proofs.lemmas.Nat.{and_le_l}
use Rattle.std.proofs.lemmas.Nat.Bits.{bit_at-lt, bit_at_and, bit_at_clear_other, bit_at_not}
use Rattle.list_facts.specs.Laws.Members.{Contains-none}
use Rattle.cover_logic.specs.declared.bundles.Bundle.{Bundle}
use Rattle.cover_logic.specs.declared.bundles.Entry.{Entry}
use Rattle.cover_terms.specs.declared.term.Term.{Term}
use Rattle.cover_logic.specs.declared.waiting_terms.Group.{Group}
use Rattle.cover_logic.specs.Inner.Bundles.{entries_in}
use Rattle.cover_terms.specs.Lists.{HasSameTerms}
use Rattle.cover_logic.specs.Inner.Entries.{IsWithin, terms_in}
use Rattle.cover_logic.specs.Inner.Groups.{AreDropped, IsDropped, IsLive, IsLiveInSome, IsTaken, all_live}
use Rattle.cover_terms.specs.Pair.{refines}
use Rattle.cover_terms.specs.Laws.Bits.{bits_of_zero, zero_is_not_one, zero_or_one}
use Rattle.cover_logic.proofs.Entries.{entry_of_term, term_of_entry}
use Rattle.cover_logic.proofs.Planes.{cleared_less, entries_push}

-- with all places of entries live, each term is
pub live_all : (g : Group) → ((k : ℕ) → k < length g.bundle.entries.items → bit_at g.live k ≡ 1) → (t : Term) → IsLive g t ↔ Contains (terms_in g.bundle.entries.items) t
live_all g all t = (
  λ h. subst (λ (u : Term). Contains (terms_in g.bundle.entries.items) u) h.has (term_of_entry g.bundle.entries.items h.entry (h.place, h.below, h.is)),
  λ h.
      let e = entry_of_term g.bundle.entries.items t h in
      record { place = e.1.0; entry = e.0; below = e.1.1; is = e.1.2; live = all e.1.0 e.1.1; has = e.2 },
)

-- a group with the same bundle, at whose live places the other is live too
abbrev live_among : (g h : Group) → g.bundle ≡ h.bundle → (t : Term) (l : IsLive h t) → bit_at g.live l.place ≡ 1 → IsLive g t
live_among g h same t l one =
    let entries : g.bundle.entries.items ≡ h.bundle.entries.items = ap (λ (b : Bundle). b.entries.items) same in
    record {
      place = l.place;
      entry = l.entry;
      below = subst (λ (es : List Entry). l.place < length es) (sym entries) l.below;
      is = subst (λ (es : List Entry). get_or es l.place l.entry ≡ l.entry) (sym entries) l.is;
      live = one;
      has = l.has;
    }

-- the entry at a live place is taken
pub taken : (g h : Group) (place : ℕ) (e : Entry) → g.bundle ≡ h.bundle → h.live ≡ bit_and g.live (bit_not w128 (1 * 2 ^ place % 2 ^ 128)) → length g.bundle.entries.items ≤ 128 → place < length g.bundle.entries.items → e ≡ get_or g.bundle.entries.items place e → bit_at g.live place ≡ 1 → IsTaken g e.term h
taken g h place e same live few below is one = record {
  was = record { place = place; entry = e; below = below; is = sym is; live = one; has = refl };
  among = λ u l. live_among g h same u l (kept l.place (sym (ap (λ n. bit_at n l.place) live) ∙ l.live));
  rest = λ u l. ⊎_elim
      (λ here.
      let at : e ≡ l.entry = is ∙ (ap (λ k. get_or g.bundle.entries.items k e) (sym here) ∙ (get_or_default g.bundle.entries.items l.place e l.entry l.below ∙ l.is)) in
      inr (ap (λ (f : Entry). f.term) at ∙ l.has))
      (λ ne. inl (live_among h g (sym same) u l (ap (λ n. bit_at n l.place) live ∙ (bit_at_clear_other w128 g.live place (omega arith) l.place (let b = l.below in omega arith) ne ∙ l.live))))
      (cases_eq l.place place);
  fewer = subst (λ n. n < g.live) (sym live) (cleared_less g.live place (omega arith) one);
}
  where
    kept : (k : ℕ) → bit_at (bit_and g.live (bit_not w128 (1 * 2 ^ place % 2 ^ 128))) k ≡ 1 → bit_at g.live k ≡ 1
    kept k l = first (bit_at g.live k) _ (bit_at-lt g.live k) (sym (bit_at_and g.live _ k) ∙ l)
      where
        first : (m n : ℕ) → m < 2 → min m n ≡ 1 → m ≡ 1
        first m n p q = omega arith

-- the terms that the row holds whole are dropped
pub dropped : (row : Term) (g h : Group) (within : ℕ) → g.bundle ≡ h.bundle → h.live ≡ bit_and g.live (bit_not w128 within) → within < 2 ^ 128 → length g.bundle.entries.items ≤ 128 → IsWithin row g.bundle.entries.items g.live within → IsDropped row g h
dropped row g h within same live fits few is = record {
  left = λ t. (
    λ l.
        let entries : g.bundle.entries.items ≡ h.bundle.entries.items = ap (λ (b : Bundle). b.entries.items) same in
        let low = subst (λ (es : List Entry). l.place < length es) (sym entries) l.below in
        let at = split l.place low (sym (ap (λ n. bit_at n l.place) live) ∙ l.live) in
        let was = live_among g h same t l at.0 in
        (was, apart was at.1),
    λ both.
        let l = both.0 in
        let none : bit_at within l.place ≡ 0 = ⊎_elim (λ z. z) (λ one. absurd (false≢true (sym both.1 ∙ sym (ap (refines row) (own l)) ∙ ((is l.place l.entry l.below).0 one).1)))
        (zero_or_one (bit_at within l.place) (bit_at-lt within l.place)) in
        live_among h g (sym same) t l (ap (λ n. bit_at n l.place) live ∙ joined l.place l.below l.live none),
  );
  less = subst (λ n. n ≤ g.live) (sym live) (and_le_l g.live (bit_not w128 within));
}
  where
    own : {t : Term} (l : IsLive g t) → (get_or g.bundle.entries.items l.place l.entry).term ≡ t
    own l = ap (λ (e : Entry). e.term) l.is ∙ l.has

    bit_of : (k : ℕ) → k < length g.bundle.entries.items → bit_at (bit_and g.live (bit_not w128 within)) k ≡ min (bit_at g.live k) (1 - bit_at within k)
    bit_of k below = bit_at_and g.live (bit_not w128 within) k ∙ ap (min (bit_at g.live k)) (bit_at_not w128 within k fits (omega arith))

    split : (k : ℕ) → k < length g.bundle.entries.items → bit_at (bit_and g.live (bit_not w128 within)) k ≡ 1 → (bit_at g.live k ≡ 1) × (bit_at within k ≡ 0)
    split k below one = parts (bit_at g.live k) (bit_at within k) (bit_at-lt g.live k) (sym (bit_of k below) ∙ one)
      where
        parts : (m n : ℕ) → m < 2 → min m (1 - n) ≡ 1 → (m ≡ 1) × (n ≡ 0)
        parts m n p q = (omega arith, omega arith)

    joined : (k : ℕ) → k < length g.bundle.entries.items → bit_at g.live k ≡ 1 → bit_at within k ≡ 0 → bit_at (bit_and g.live (bit_not w128 within)) k ≡ 1
    joined k below one none = bit_of k below ∙ both (bit_at g.live k) (bit_at within k) one none
      where
        both : (m n : ℕ) → m ≡ 1 → n ≡ 0 → min m (1 - n) ≡ 1
        both m n p q = omega arith

    apart : {t : Term} (l : IsLive g t) → bit_at within l.place ≡ 0 → refines row t ≡ false
    apart {t} l none = ⊎_elim
        (λ yes. absurd (zero_is_not_one _ none ((is l.place l.entry l.below).1 (l.live, ap (refines row) (own l) ∙ yes)))) (λ no. no) (cases_Bool (refines row t))

-- one group more
live_push : (gs : List Group) (g : Group) (t : Term) → IsLiveInSome (gs ++ g ∷ []) t ↔ (IsLiveInSome gs t ⊎ IsLive g t)
live_push gs g t = (
  λ h. ⊎_elim (λ k. inl (h.0, k, h.2)) (λ same. inr (subst (λ (x : Group). IsLive x t) (sym same) h.2)) (Contains-push_cases gs g h.0 h.1),
  λ h. ⊎_elim (λ k. (k.0, Contains-append_left gs (g ∷ []) k.0 k.1, k.2)) (λ l. (g, Contains-push gs g, l)) h,
)

-- each of the terms is live in a group, or is in a bundle that has no group yet
abbrev pub AreGrouped : List Term → List Bundle → List Group → Type 0
AreGrouped terms left gs = (t : Term) → (IsLiveInSome gs t ⊎ Contains (terms_in (entries_in left)) t) ↔ Contains terms t

pub grouped_none : (terms : List Term) (left : List Bundle) → HasSameTerms terms (terms_in (entries_in left)) → AreGrouped terms left []
grouped_none terms left same t = (λ h. ⊎_elim (λ k. absurd (Contains-none k.0 k.1)) (λ k. (same t).0 k) h, λ h. inr ((same t).1 h))

pub grouped_more : (terms : List Term) (left : List Bundle) (gs : List Group) (b : Bundle) (g : Group) → ((t : Term) → IsLive g t ↔ Contains (terms_in b.entries.items) t) → AreGrouped terms (left ++ b ∷ []) gs → AreGrouped terms left (gs ++ g ∷ [])
grouped_more terms left gs b g each all t = (
  λ h. (all t).0 (⊎_elim
      (λ l. ⊎_elim (λ k. inl k) (λ k. inr (back (Contains-append_right (terms_in (entries_in left)) (terms_in b.entries.items) t ((each t).0 k)))) ((live_push gs g t).0 l))
      (λ k. inr (back (Contains-append_left (terms_in (entries_in left)) (terms_in b.entries.items) t k))) h),
  λ h. ⊎_elim (λ l. inl ((live_push gs g t).1 (inl l)))
      (λ k. ⊎_elim (λ first. inr first) (λ last. inl ((live_push gs g t).1 (inr ((each t).1 last))))
      (Contains-append_cases (terms_in (entries_in left)) (terms_in b.entries.items) t (subst (λ (ts : List Term). Contains ts t) same k))) ((all t).1 h),
)
  where
    terms-append : (xs ys : List Entry) → terms_in (xs ++ ys) ≡ terms_in xs ++ terms_in ys
    terms-append [] ys = refl
    terms-append (x ∷ xs) ys = ap (λ ts. x.term ∷ ts) (terms-append xs ys)

    same : terms_in (entries_in (left ++ b ∷ [])) ≡ terms_in (entries_in left) ++ terms_in b.entries.items
    same = ap terms_in (entries_push left b) ∙ terms-append (entries_in left) b.entries.items

    back : Contains (terms_in (entries_in left) ++ terms_in b.entries.items) t → Contains (terms_in (entries_in (left ++ b ∷ []))) t
    back k = subst (λ (ts : List Term). Contains ts t) (sym same) k

pub grouped_all : (terms : List Term) (left : List Bundle) (gs : List Group) → left ≡ [] → AreGrouped terms left gs → (t : Term) → IsLiveInSome gs t ↔ Contains terms t
grouped_all terms left gs none all t =
    (λ h. (all t).0 (inl h), λ h. ⊎_elim (λ l. l) (λ k. absurd (Contains-none t (subst (λ (bs : List Bundle). Contains (terms_in (entries_in bs)) t) none k))) ((all t).1 h))

-- another group instead of one
pub all_live_set : (gs : List Group) (i : ℕ) (h d : Group) → i < length gs → all_live (set gs i h) + (get_or gs i d).live ≡ all_live gs + h.live
all_live_set [] i h d below = absurd (omega arith)
all_live_set (g ∷ gs) zero h d below = omega arith
all_live_set (g ∷ gs) (suc i) h d below = let rest = all_live_set gs i h d (omega arith) in omega (arith, rest)

-- the first groups have dropped their terms, and the others are as they were
pub record AreFirstDropped (row : Term) (before after : List Group) (count : ℕ) : Type 0 where
  pub size : length after ≡ length before
  pub done : (k : ℕ) (d : Group) → k < length before → k < count → IsDropped row (get_or before k d) (get_or after k d)
  pub rest : (k : ℕ) (d : Group) → count ≤ k → get_or after k d ≡ get_or before k d
  pub less : all_live after ≤ all_live before

pub dropped_none : (row : Term) (gs : List Group) → AreFirstDropped row gs gs 0
dropped_none row gs = record { size = refl; done = λ k d below none. absurd (omega arith); rest = λ k d ge. refl; less = omega arith }

pub dropped_more : (row : Term) (before after : List Group) (count : ℕ) (g h : Group) → count < length after → g ≡ get_or after count g → IsDropped row g h → AreFirstDropped row before after count → AreFirstDropped row before (set after count h) (count + 1)
dropped_more row before after count g h below is one a = record {
  size = length-set after count h ∙ a.size;
  done = λ k d in' low. ⊎_elim
      (λ same. subst (λ j. IsDropped row (get_or before j d) (get_or (set after count h) j d)) (sym same)
      (subst (λ (x : Group). IsDropped row (get_or before count d) x) (sym (get_or-set_same after count h d below)) (subst (λ (x : Group). IsDropped row x h) (at d) one)))
      (λ ne. subst (λ (x : Group). IsDropped row (get_or before k d) x) (sym (get_or-set_other after count k h d ne)) (a.done k d in' (omega arith))) (cases_eq k count);
  rest = λ k d ge. get_or-set_other after count k h d (λ same. omega arith) ∙ a.rest k d (omega arith);
  less = let sum = all_live_set after count h g below in let less = subst (λ (x : Group). h.live ≤ x.live) is one.less in let total = a.less in omega (arith, sum, less, total);
}
  where
    at : (d : Group) → g ≡ get_or before count d
    at d = is ∙ (get_or_default after count g d below ∙ a.rest count d (omega arith))

pub dropped_all : (row : Term) (before after : List Group) (count : ℕ) → length after ≤ count → AreFirstDropped row before after count → AreDropped row before after
dropped_all row before after count all a = record {
  left = λ t. (
    λ h.
        let low : h.1.0 < length before = (let b = h.1.1 in let s = a.size in omega arith) in
        let one = a.done h.1.0 h.0 low (let b = h.1.1 in omega arith) in
        let l = (one.left t).0 (subst (λ (x : Group). IsLive x t) (sym h.1.2) h.2) in
        ((get_or before h.1.0 h.0, Contains-get_or before h.1.0 h.0 low, l.0), l.1),
    λ both.
        let h = both.0 in
        let low : h.1.0 < length after = (let b = h.1.1 in let s = a.size in omega arith) in
        let one = a.done h.1.0 h.0 h.1.1 (omega arith) in
        let l = (one.left t).1 (subst (λ (x : Group). IsLive x t) (sym h.1.2) h.2, both.1) in
        (get_or after h.1.0 h.0, Contains-get_or after h.1.0 h.0 low, l),
  );
  less = a.less;
}

-- a term taken from one of the groups
pub record AreTaken (before : List Group) (t : Term) (after : List Group) : Type 0 where
  pub was : IsLiveInSome before t
  pub among : (u : Term) → IsLiveInSome after u → IsLiveInSome before u
  pub rest : (u : Term) → IsLiveInSome before u → IsLiveInSome after u ⊎ (t ≡ u)
  pub fewer : all_live after < all_live before

pub taken_at : (gs : List Group) (i : ℕ) (g h : Group) (t : Term) → i < length gs → g ≡ get_or gs i g → IsTaken g t h → AreTaken gs t (set gs i h)
taken_at gs i g h t below is one = record {
  was = (g, (i, below, sym is), one.was);
  among = λ u l. ⊎_elim
      (λ same. (g, (i, below, sym is), one.among u (subst (λ (x : Group). IsLive x u) (sym l.1.2 ∙ (ap (λ j. get_or (set gs i h) j l.0) same ∙ get_or-set_same gs i h l.0 below)) l.2)))
      (λ ne. (l.0, (l.1.0, subst (λ n. l.1.0 < n) (length-set gs i h) l.1.1, sym (get_or-set_other gs i l.1.0 h l.0 ne) ∙ l.1.2), l.2)) (cases_eq l.1.0 i);
  rest = λ u l. ⊎_elim
      (λ same.
      let at : l.0 ≡ g = sym l.1.2 ∙ (ap (λ j. get_or gs j l.0) same ∙ (get_or_default gs i l.0 g below ∙ sym is)) in
      ⊎_elim (λ k. inl (h, (i, subst (λ n. i < n) (sym (length-set gs i h)) below, get_or-set_same gs i h h below), k)) (λ e. inr e) (one.rest u (subst (λ (x : Group). IsLive x u) at l.2)))
      (λ ne. inl (l.0, (l.1.0, subst (λ n. l.1.0 < n) (sym (length-set gs i h)) l.1.1, get_or-set_other gs i l.1.0 h l.0 ne ∙ l.1.2), l.2)) (cases_eq l.1.0 i);
  fewer = let sum = all_live_set gs i h g below in let less = subst (λ (x : Group). h.live < x.live) is one.fewer in omega (arith, sum, less);
}

-- with no live place no term is live
pub none_live : (gs : List Group) → ((k : ℕ) (d : Group) → k < length gs → (get_or gs k d).live ≡ 0) → (t : Term) → IsLiveInSome gs t → ⊥
none_live gs none t h = zero_is_not_one (bit_at h.0.live h.2.place) (bits_of_zero h.0.live (ap (λ (x : Group). x.live) (sym h.1.2) ∙ none h.1.0 h.0 h.1.1) h.2.place) h.2.live
