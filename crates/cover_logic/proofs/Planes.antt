use Rattle.std.proofs.Common.{◌≡◌, ◌↔◌, ℕ, ◌+◌, ◌-◌, ◌*◌, ◌%◌, ◌^◌, ◌<◌, ◌≤◌, ◌∙◌, true, false, bit_and, bit_or, List, [], ◌∷◌, ◌++◌, length, take, drop, get_or, ap, sym, subst, refl, ◌⊎◌, inl, inr, ⊎_elim, append_assoc, arith}
use Rattle.std.specs.Int.{bit_at, bit_not, w128}
use Rattle.std.specs.List.{All, Contains}
use Rattle.std.proofs.lemmas.Bool.{false≢true, cases_eq, cases_lt}
use Rattle.std.proofs.lemmas.List.{append-nil, get_or_default, get_or_append_left, get_or-append_right, length-append, drop-take, take-append-drop, take-take}
use Rattle.std.proofs.lemmas.List.Elements.{Contains-append_cases, Contains-append_left, Contains-append_right, Contains-get_or, Contains-push, Contains-push_cases}
use Rattle.std.proofs.lemmas.Nat.{and_le_l}
use Rattle.std.proofs.lemmas.Nat.Bits.{bit_at-lt, bit_at-zero, bit_at_clear_other, bit_at_clear_same, bit_at_not, bit_at_set_other, bit_at_set_same}
use Rattle.list_facts.specs.Laws.Members.{Contains-none}
use Rattle.cover_logic.specs.declared.bundles.Bundle.{Bundle}
use Rattle.cover_logic.specs.declared.bundles.Entry.{Entry}
use Rattle.cover_logic.specs.declared.bundles.Plane.{Plane}
use Rattle.cover_terms.specs.declared.term.Term.{Term}
use Rattle.cover_logic.specs.Inner.Bundles.{entries_in}
use Rattle.cover_logic.specs.Inner.Entries.{AreMore, EntryFits, HasLiterals, IsAgainst, IsMet, IsPutAt, IsPutIn}
use Rattle.cover_terms.specs.Pair.{HasLiteral, agree}
use Rattle.cover_logic.specs.Inner.Planes.{ArePlanes}
use Rattle.cover_terms.specs.Laws.Bits.{below_width, bits_of_zero, zero_is_not_one, zero_or_one}

-- the set has the places of those of the first entries that have the literal, and none of a later one
abbrev pub HasFirstLiterals : ℕ → ℕ → List Entry → ℕ → ℕ → Type 0
HasFirstLiterals column bit entries count places =
    (k : ℕ) (d : Entry) → k < length entries → (bit_at places k ≡ 1) ↔ ((k < count) × HasLiteral (get_or entries k d).term column bit)

pub literals_none : (column bit : ℕ) (entries : List Entry) → HasFirstLiterals column bit entries 0 0
literals_none column bit entries k d below = (λ one. absurd (zero_is_not_one (bit_at 0 k) (bit_at-zero k) one), λ h. let none = h.0 in absurd (omega arith))

-- one entry more, with the literal
pub literals_more : (column bit : ℕ) (entries : List Entry) (places place : ℕ) (e : Entry) → HasFirstLiterals column bit entries place places → place < 128 → place < length entries → e ≡ get_or entries place e → HasLiteral e.term column bit → HasFirstLiterals column bit entries (place + 1) (bit_or places (1 * 2 ^ place % 2 ^ 128))
literals_more column bit entries places place e h within below is has k d in' = ⊎_elim
    (λ same.
    let entry : get_or entries k d ≡ e = ap (λ i. get_or entries i d) same ∙ (get_or_default entries place d e below ∙ sym is) in (
      λ one. (omega arith, subst (λ (f : Entry). HasLiteral f.term column bit) (sym entry) has),
      λ l. ap (bit_at (bit_or places (1 * 2 ^ place % 2 ^ 128))) same ∙ bit_at_set_same w128 places place within,
    ))
    (λ ne.
    let other = bit_at_set_other w128 places place within k ne in (
      λ one. let l = (h k d in').0 (sym other ∙ one) in (let low = l.0 in omega arith, l.1),
      λ l. other ∙ (h k d in').1 (let low = l.0 in omega arith, l.1),
    )) (cases_eq k place)

-- and without it
pub literals_passed : (column bit : ℕ) (entries : List Entry) (places place : ℕ) (e : Entry) → HasFirstLiterals column bit entries place places → place < length entries → e ≡ get_or entries place e → (HasLiteral e.term column bit → ⊥) → HasFirstLiterals column bit entries (place + 1) places
literals_passed column bit entries places place e h below is has k d in' = (
  λ one. let l = (h k d in').0 one in (let low = l.0 in omega arith, l.1),
  λ l. ⊎_elim
      (λ same.
      let entry : get_or entries k d ≡ e = ap (λ i. get_or entries i d) same ∙ (get_or_default entries place d e below ∙ sym is) in
      absurd (has (subst (λ (f : Entry). HasLiteral f.term column bit) entry l.1)))
      (λ ne. (h k d in').1 (let low = l.0 in omega arith, l.1)) (cases_eq k place),
)

pub literals_all : (column bit : ℕ) (entries : List Entry) (count places : ℕ) → length entries ≤ count → HasFirstLiterals column bit entries count places → HasLiterals column bit entries places
literals_all column bit entries count places all h k d below = (λ one. ((h k d below).0 one).1, λ l. (h k d below).1 (omega arith, l))

-- no entry has a literal from the width on
pub literals_beyond : (width column bit : ℕ) (entries : List Entry) → All (EntryFits width) entries → width ≤ column → HasLiterals column bit entries 0
literals_beyond width column bit entries fits beyond k d below = (
  λ one. absurd (zero_is_not_one (bit_at 0 k) (bit_at-zero k) one),
  λ l. let low = below_width width (get_or entries k d).term.care column (fits k d below) l.0 in absurd (omega (arith, low)),
)

-- nothing is put in
pub more_none : (row : Term) (entries met : List Entry) → AreMore row entries met met
more_none row entries met = record { kept = λ e h. h; among = λ e h. inl h }

-- first some, and then others
pub more_then : (row : Term) (entries before mid after : List Entry) → AreMore row entries before mid → AreMore row entries mid after → AreMore row entries before after
more_then row entries before mid after a b = record {
  kept = λ e h. b.kept e (a.kept e h);
  among = λ e h. ⊎_elim (λ k. a.among e k) (λ k. inr k) (b.among e h);
}

-- the entry at the place
pub put_there : (row : Term) (entries met : List Entry) (place : ℕ) (e : Entry) → place < length entries → e ≡ get_or entries place e → agree row e.term ≡ true → IsPutAt row entries place met (met ++ e ∷ [])
put_there row entries met place e below is some = record {
  more = record {
    kept = λ f h. Contains-append_left met (e ∷ []) f h;
    among = λ f h. ⊎_elim (λ k. inl k)
        (λ same. inr (subst (λ (g : Entry). Contains entries g × (agree row g.term ≡ true)) same
        (subst (λ (g : Entry). Contains entries g) (sym is) (Contains-get_or entries place e below), some)))
        (Contains-push_cases met e f h);
  };
  there = λ d in' agrees. subst (λ (g : Entry). Contains (met ++ e ∷ []) g) (is ∙ get_or_default entries place e d below) (Contains-push met e);
}

-- no entry at the place, or one whose term shares no value with the row
pub put_beyond : (row : Term) (entries met : List Entry) (place : ℕ) → length entries ≤ place → IsPutAt row entries place met met
put_beyond row entries met place beyond = record { more = more_none row entries met; there = λ d below some. absurd (omega arith) }

pub put_passed : (row : Term) (entries met : List Entry) (place : ℕ) (e : Entry) → place < length entries → e ≡ get_or entries place e → agree row e.term ≡ false → IsPutAt row entries place met met
put_passed row entries met place e below is apart = record {
  more = more_none row entries met;
  there = λ d in' some. absurd
      (false≢true (sym apart ∙ subst (λ (g : Entry). agree row g.term ≡ true) (sym (is ∙ get_or_default entries place e d below)) some));
}

-- of the entries whose terms share a value with the row, those at no open place are put in
pub record AreOpen (row : Term) (entries before met : List Entry) (open' : ℕ) : Type 0 where
  pub more : AreMore row entries before met
  pub all : (k : ℕ) (d : Entry) → k < length entries → agree row (get_or entries k d).term ≡ true → (bit_at open' k ≡ 1) ⊎ Contains met (get_or entries k d)

pub open_first : (row : Term) (entries met : List Entry) (against : ℕ) → length entries ≤ 128 → against < 2 ^ 128 → IsAgainst row entries against → AreOpen row entries met met (bit_not w128 against)
open_first row entries met against few fits h = record {
  more = more_none row entries met;
  all = λ k d below some. ⊎_elim
      (λ zero. inl (bit_at_not w128 against k fits (omega arith) ∙ ap (λ b. 1 - b) zero))
      (λ one. absurd (false≢true (sym ((h k d below).0 one) ∙ some))) (zero_or_one (bit_at against k) (bit_at-lt against k));
}

pub open_less : (row : Term) (entries before met after : List Entry) (open' place : ℕ) → length entries ≤ 128 → place < 128 → AreOpen row entries before met open' → IsPutAt row entries place met after → AreOpen row entries before after (bit_and open' (bit_not w128 (1 * 2 ^ place % 2 ^ 128)))
open_less row entries before met after open' place few within o p = record {
  more = more_then row entries before met after o.more p.more;
  all = λ k d below some. ⊎_elim
      (λ same. inr (rest k d same below some))
      (λ ne. ⊎_elim (λ one. inl (bit_at_clear_other w128 open' place within k (omega arith) ne ∙ one)) (λ h. inr (p.more.kept (get_or entries k d) h)) (o.all k d below some))
      (cases_eq k place);
}
  where
    rest : (k : ℕ) (d : Entry) → k ≡ place → k < length entries → agree row (get_or entries k d).term ≡ true → Contains after (get_or entries k d)
    rest k d same below some =
        let e : get_or entries place d ≡ get_or entries k d = ap (λ i. get_or entries i d) (sym same) in
        subst (λ (f : Entry). Contains after f) e (p.there d (subst (λ i. i < length entries) same below) (subst (λ (f : Entry). agree row f.term ≡ true) (sym e) some))

-- with no open place, all are put in
pub open_all : (row : Term) (entries before met : List Entry) (open' : ℕ) → open' ≡ 0 → AreOpen row entries before met open' → IsPutIn row entries before met
open_all row entries before met open' none o = record {
  more = o.more;
  all = λ e h some.
      let is = h.2 in
      subst (λ (f : Entry). Contains met f) is
      (⊎_elim (λ one. absurd (zero_is_not_one (bit_at open' h.0) (bits_of_zero open' none h.0) one)) (λ k. k)
      (o.all h.0 e h.1 (subst (λ (f : Entry). agree row f.term ≡ true) (sym is) some)));
}

-- a number without one of its bits is less
pub cleared_less : (n k : ℕ) → k < 128 → bit_at n k ≡ 1 → bit_and n (bit_not w128 (1 * 2 ^ k % 2 ^ 128)) < n
cleared_less n k within one = ⊎_elim
    (λ same. absurd (zero_is_not_one (bit_at n k) (sym (ap (λ m. bit_at m k) same) ∙ bit_at_clear_same w128 n k within) one))
    (λ ne. let le = and_le_l n (bit_not w128 (1 * 2 ^ k % 2 ^ 128)) in omega (arith, le)) (cases_eq (bit_and n (bit_not w128 (1 * 2 ^ k % 2 ^ 128))) n)

-- the first elements, and some after them
pub take_add : {X : Type 0} (i m : ℕ) (xs : List X) → take (i + m) xs ≡ take i xs ++ take m (drop i xs)
take_add {X} i m xs =
    sym (take-append-drop i (take (i + m) xs))
    ∙ (ap (λ (ys : List X). ys ++ drop i (take (i + m) xs)) (take-take i (i + m) xs (omega arith)) ∙ ap (λ (ys : List X). take i xs ++ ys) (drop-take i m xs))

-- the entries of two lists of bundles
pub entries-append : (xs ys : List Bundle) → entries_in (xs ++ ys) ≡ entries_in xs ++ entries_in ys
entries-append [] ys = refl
entries-append (x ∷ xs) ys = ap (λ es. x.entries.items ++ es) (entries-append xs ys) ∙ sym (append_assoc x.entries.items (entries_in xs) (entries_in ys))

pub entries_push : (xs : List Bundle) (b : Bundle) → entries_in (xs ++ b ∷ []) ≡ entries_in xs ++ b.entries.items
entries_push xs b = entries-append xs (b ∷ []) ∙ ap (λ es. entries_in xs ++ es) (append-nil b.entries.items)

-- those that the row meets, of no entry, and of those of one bundle more
pub met_of_none : (row : Term) → IsMet row [] []
met_of_none row e = (λ h. absurd (Contains-none e h), λ h. absurd (Contains-none e h.0))

pub met_of_more : (row : Term) (entries more met after : List Entry) → IsMet row entries met → IsPutIn row more met after → IsMet row (entries ++ more) after
met_of_more row entries more met after m p e = (
  λ h. ⊎_elim (λ k. let o = (m e).0 k in (Contains-append_left entries more e o.0, o.1)) (λ k. (Contains-append_right entries more e k.0, k.1)) (p.more.among e h),
  λ h. ⊎_elim (λ k. p.more.kept e ((m e).1 (k, h.1))) (λ k. p.all e k h.1) (Contains-append_cases entries more e h.0),
)

-- a plane more
pub planes_none_at : (entries : List Entry) (planes : List Plane) → planes ≡ [] → length entries ≤ 128 → ArePlanes entries planes
planes_none_at entries planes none few = subst (λ (ps : List Plane). ArePlanes entries ps) (sym none) (planes_none entries few)
  where
    planes_none : (entries : List Entry) → length entries ≤ 128 → ArePlanes entries []
    planes_none entries few = record { few = few; width = omega arith; zeros = λ i d below. absurd (omega arith); ones = λ i d below. absurd (omega arith) }

pub planes_more : (entries : List Entry) (planes : List Plane) (p : Plane) (column : ℕ) → ArePlanes entries planes → length planes ≡ column → column < 128 → HasLiterals column 0 entries p.zeros → HasLiterals column 1 entries p.ones → ArePlanes entries (planes ++ p ∷ [])
planes_more entries planes p column t size within zeros ones = record {
  few = t.few;
  width = let n = length-append planes (p ∷ []) in omega (arith, n);
  zeros = λ i d below. ⊎_elim
      (λ lt. subst (λ (q : Plane). HasLiterals i 0 entries q.zeros) (sym (get_or_append_left planes (p ∷ []) d i lt)) (t.zeros i d lt))
      (λ ge. let e = last i below ge in
      subst (λ (q : Plane). HasLiterals i 0 entries q.zeros) (sym (at i d e)) (subst (λ j. HasLiterals j 0 entries p.zeros) (sym (e ∙ size)) zeros))
      (cases_lt i (length planes));
  ones = λ i d below. ⊎_elim
      (λ lt. subst (λ (q : Plane). HasLiterals i 1 entries q.ones) (sym (get_or_append_left planes (p ∷ []) d i lt)) (t.ones i d lt))
      (λ ge. let e = last i below ge in
      subst (λ (q : Plane). HasLiterals i 1 entries q.ones) (sym (at i d e)) (subst (λ j. HasLiterals j 1 entries p.ones) (sym (e ∙ size)) ones))
      (cases_lt i (length planes));
}
  where
    last : (i : ℕ) → i < length (planes ++ p ∷ []) → length planes ≤ i → i ≡ length planes
    last i below ge = let all = length-append planes (p ∷ []) in omega (arith, all)

    at : (i : ℕ) (d : Plane) → i ≡ length planes → get_or (planes ++ p ∷ []) i d ≡ p
    at i d e = get_or-append_right planes (p ∷ []) (length planes) i d refl (omega arith) ∙ ap (λ k. get_or (p ∷ []) k d) zero_left
      where
        zero_left : i - length planes ≡ 0
        zero_left = omega arith
