use Rattle.std.proofs.Common.{◌≡◌, ℕ, ◌+◌, ◌-◌, ◌<◌, ◌≤◌, ◌∙◌, Bool, true, false, not, ◌==◌, ◌&&◌, bit_and, List, [], ◌∷◌, ◌++◌, length, get_or, cond, ap, sym, subst, refl, ⊎_elim, append_assoc, arith, zero, suc}
use Rattle.std.specs.List.{All, Contains, filter}
use Rattle.std.proofs.lemmas.Bool.{false≢true, cases_Bool, cases_lt, cases_eq, cond-true, cond-false}
use Rattle.std.proofs.lemmas.List.{length-append, get_or_append_left, get_or-append_right, get_or_default, append-nil}
use Rattle.std.proofs.lemmas.List.Elements.{All-nil, All-append, All-contains, All-weaker, Contains-append_left, Contains-append_right, Contains-append_cases, Contains-get_or, All-contains_itself}
use Rattle.list_facts.specs.Laws.Members.{Contains-cons, Contains-filter, Contains-from_filter, Contains-here, Contains-none, Contains-there}
use Rattle.cover_logic.specs.declared.index.Node.{Node}
use Rattle.cover_terms.specs.declared.term.Term.{Term}
use Rattle.cover_logic.specs.Inner.Nodes.{listed, IsNested, IsAdded}
use Rattle.cover_terms.specs.Term.{Holds}
use Rattle.cover_terms.specs.Pair.{Includes, ShareValue, agree, has_zero, has_one, has_dash}
use Rattle.cover_terms.specs.Lists.{HasSameTerms}
use Rattle.cover_logic.specs.Inner.Rows.{IsClear, MeetsSome}
use Rattle.cover_terms.specs.Laws.Terms.{agree_from_shared, shared_from_agree}

-- the terms of two lists of nodes
pub listed-append : (xs ys : List Node) → listed (xs ++ ys) ≡ listed xs ++ listed ys
listed-append [] ys = refl
listed-append (x ∷ xs) ys = step x.is_listed (listed xs) (listed (xs ++ ys)) (listed-append xs ys)
  where
    step : (b : Bool) (low all : List Term) → all ≡ low ++ listed ys → cond b (x.term ∷ all) all ≡ cond b (x.term ∷ low) low ++ listed ys
    step true low all e = ap (λ ts. x.term ∷ ts) e
    step false low all e = e

-- a node of the list, at its place
pub listed_at : (nodes : List Node) (i : ℕ) (d : Node) → i < length nodes → (get_or nodes i d).is_listed ≡ true → Contains (listed nodes) (get_or nodes i d).term
listed_at [] i d h e = absurd (omega arith)
listed_at (x ∷ xs) zero d h e = subst (λ (ts : List Term). Contains ts x.term) (sym (cond-true x.is_listed (x.term ∷ listed xs) (listed xs) e)) (Contains-here x.term (listed xs))
listed_at (x ∷ xs) (suc i) d h e = behind x.is_listed (listed_at xs i d (omega arith) e)
  where
    behind : (b : Bool) → Contains (listed xs) (get_or xs i d).term → Contains (cond b (x.term ∷ listed xs) (listed xs)) (get_or xs i d).term
    behind true k = Contains-there x.term (get_or xs i d).term (listed xs) k
    behind false k = k

-- and a term of the list, at its place
abbrev pub StandsAt : List Node → Term → Type 0
StandsAt nodes t = (i : ℕ) × (i < length nodes) × ((d : Node) → ((get_or nodes i d).is_listed ≡ true) × ((get_or nodes i d).term ≡ t))

pub stands : (nodes : List Node) (t : Term) → Contains (listed nodes) t → StandsAt nodes t
stands [] t h = absurd (Contains-none t h)
stands (x ∷ xs) t h = by_first x.is_listed refl (λ k. later (stands xs t k)) h
  where
    later : StandsAt xs t → StandsAt (x ∷ xs) t
    later s = let below = s.1 in (suc s.0, omega arith, s.2)

    by_first : (b : Bool) → x.is_listed ≡ b → (Contains (listed xs) t → StandsAt (x ∷ xs) t) → Contains (cond b (x.term ∷ listed xs) (listed xs)) t → StandsAt (x ∷ xs) t
    by_first true e rest k = ⊎_elim (λ same. (0, omega arith, λ d. (e, same))) rest (Contains-cons x.term t (listed xs) k)
    by_first false e rest k = rest k

-- one node more
pub nested_push : (nodes : List Node) (n : Node) → IsNested nodes → n.from ≤ length nodes → ((j : ℕ) (d : Node) → n.from ≤ j → j < length nodes → (get_or nodes j d).is_listed ≡ true → Includes n.term (get_or nodes j d).term) → IsNested (nodes ++ n ∷ [])
nested_push nodes n h from inside = record {
  back = λ i d below. ⊎_elim
      (λ lt. subst (λ (m : Node). m.from ≤ i) (sym (before i d lt)) (h.back i d lt))
      (λ ge. let e : i ≡ length nodes = last i below ge in subst (λ (m : Node). m.from ≤ i) (sym (at i d e)) (omega arith))
      (cases_lt i (length nodes));
  includes = λ i j d below low high is. ⊎_elim
      (λ lt.
      let first : j < length nodes = omega arith in
      let e = before i d lt in
      let f = before j d first in
      subst (λ (m : Node). Includes m.term (get_or (nodes ++ n ∷ []) j d).term) (sym e)
      (subst (λ (m : Node). Includes (get_or nodes i d).term m.term) (sym f)
      (h.includes i j d lt (subst (λ (m : Node). m.from ≤ j) e low) high (subst (λ (m : Node). m.is_listed ≡ true) f is))))
      (λ ge.
      let e = last i below ge in
      let first : j < length nodes = omega arith in
      let f = before j d first in
      subst (λ (m : Node). Includes m.term (get_or (nodes ++ n ∷ []) j d).term) (sym (at i d e))
      (subst (λ (m : Node). Includes n.term m.term) (sym f)
      (inside j d (subst (λ (m : Node). m.from ≤ j) (at i d e) low) first (subst (λ (m : Node). m.is_listed ≡ true) f is))))
      (cases_lt i (length nodes));
}
  where
    before : (i : ℕ) (d : Node) → i < length nodes → get_or (nodes ++ n ∷ []) i d ≡ get_or nodes i d
    before i d lt = get_or_append_left nodes (n ∷ []) d i lt

    last : (i : ℕ) → i < length (nodes ++ n ∷ []) → length nodes ≤ i → i ≡ length nodes
    last i below ge = let all = length-append nodes (n ∷ []) in omega (arith, all)

    at : (i : ℕ) (d : Node) → i ≡ length nodes → get_or (nodes ++ n ∷ []) i d ≡ n
    at i d e = get_or-append_right nodes (n ∷ []) (length nodes) i d refl (omega arith) ∙ ap (λ k. get_or (n ∷ []) k d) zero_left
      where
        zero_left : i - length nodes ≡ 0
        zero_left = omega arith

-- nothing is put in
pub added_none : (nodes : List Node) → IsNested nodes → IsAdded nodes [] nodes
added_none nodes h = record { added = []; is = sym (append-nil nodes); nested = h; among = All-nil (Contains []); all = All-nil (Contains []) }

-- first some, and then others
pub added_then : (before mid after : List Node) (xs ys : List Term) → IsAdded before xs mid → IsAdded mid ys after → IsAdded before (xs ++ ys) after
added_then before mid after xs ys a b = record {
  added = a.added ++ b.added;
  is = b.is ∙ (ap (λ ns. ns ++ b.added) a.is ∙ append_assoc before a.added b.added);
  nested = b.nested;
  among = let P : List Term → Type 0 = λ ts. All (Contains (xs ++ ys)) ts in
      subst P (sym (listed-append a.added b.added))
      (All-append (Contains (xs ++ ys)) (listed a.added) (listed b.added)
      (All-weaker (Contains xs) (Contains (xs ++ ys)) (λ t k. Contains-append_left xs ys t k) (listed a.added) a.among)
      (All-weaker (Contains ys) (Contains (xs ++ ys)) (λ t k. Contains-append_right xs ys t k) (listed b.added) b.among));
  all = let P : List Term → Type 0 = λ ts. All (Contains ts) (xs ++ ys) in
      subst P (sym (listed-append a.added b.added))
      (All-append (Contains (listed a.added ++ listed b.added)) xs ys
      (All-weaker (Contains (listed a.added)) (Contains (listed a.added ++ listed b.added)) (λ t k. Contains-append_left (listed a.added) (listed b.added) t k) xs a.all)
      (All-weaker (Contains (listed b.added)) (Contains (listed a.added ++ listed b.added)) (λ t k. Contains-append_right (listed a.added) (listed b.added) t k) ys b.all));
}

-- the terms in another order
pub added_same : (before after : List Node) (xs ys : List Term) → HasSameTerms xs ys → IsAdded before ys after → IsAdded before xs after
added_same before after xs ys same a = record {
  added = a.added;
  is = a.is;
  nested = a.nested;
  among = All-weaker (Contains ys) (Contains xs) (λ t k. (same t).0 k) (listed a.added) a.among;
  all = λ k d below. All-contains (Contains (listed a.added)) ys (get_or xs k d) a.all ((same (get_or xs k d)).1 (Contains-get_or xs k d below));
}

-- one term more, with a node of its own
pub added_term : (before after : List Node) (xs : List Term) (n : Node) → IsAdded before xs after → n.is_listed ≡ true → n.from ≡ length after → IsAdded before (xs ++ n.term ∷ []) (after ++ n ∷ [])
added_term before after xs n a is from =
    added_then before after (after ++ n ∷ []) xs (n.term ∷ []) a (record {
      added = n ∷ [];
      is = refl;
      nested = nested_push after n a.nested (omega arith) (λ j d low below. absurd (omega arith));
      among = subst (λ (ts : List Term). All (Contains (n.term ∷ [])) ts) (sym one) (All-contains_itself (n.term ∷ []));
      all = subst (λ (ts : List Term). All (Contains ts) (n.term ∷ [])) (sym one) (All-contains_itself (n.term ∷ []));
    })
  where
    one : listed (n ∷ []) ≡ n.term ∷ []
    one = cond-true n.is_listed (n.term ∷ []) [] is

-- a node over all that was put in
pub added_hull : (before after : List Node) (terms : List Term) (n : Node) → IsAdded before terms after → n.is_listed ≡ false → n.from ≡ length before → All (Includes n.term) terms → IsAdded before terms (after ++ n ∷ [])
added_hull before after terms n a is from holds = record {
  added = a.added ++ n ∷ [];
  is = ap (λ ns. ns ++ n ∷ []) a.is ∙ append_assoc before a.added (n ∷ []);
  nested = nested_push after n a.nested (omega (arith, size)) inside;
  among = subst (λ (ts : List Term). All (Contains terms) ts) (sym same) a.among;
  all = subst (λ (ts : List Term). All (Contains ts) terms) (sym same) a.all;
}
  where
    size : length after ≡ length before + length a.added
    size = ap length a.is ∙ length-append before a.added

    same : listed (a.added ++ n ∷ []) ≡ listed a.added
    same = listed-append a.added (n ∷ []) ∙ (ap (λ ts. listed a.added ++ ts) (cond-false n.is_listed (n.term ∷ []) [] is) ∙ append-nil (listed a.added))

    inside : (j : ℕ) (d : Node) → n.from ≤ j → j < length after → (get_or after j d).is_listed ≡ true → Includes n.term (get_or after j d).term
    inside j d low below l =
        let e : get_or after j d ≡ get_or a.added (j - length before) d =
        ap (λ ns. get_or ns j d) a.is ∙ get_or-append_right before a.added (length before) j d refl (omega arith) in
        let k = listed_at a.added (j - length before) d (omega (arith, size)) (subst (λ (m : Node). m.is_listed ≡ true) e l) in
        subst (λ (m : Node). Includes n.term m.term) (sym e)
        (All-contains (Includes n.term) terms (get_or a.added (j - length before) d).term holds
        (All-contains (Contains terms) (listed a.added) (get_or a.added (j - length before) d).term a.among k))

-- what was put in after nothing
pub same_terms : (terms : List Term) (nodes : List Node) → IsAdded [] terms nodes → HasSameTerms terms (listed nodes)
same_terms terms nodes a t = (
  λ h. All-contains (Contains terms) (listed a.added) t a.among (subst (λ (ns : List Node). Contains (listed ns) t) a.is h),
  λ h. subst (λ (ns : List Node). Contains (listed ns) t) (sym a.is) (All-contains (Contains (listed a.added)) terms t a.all h),
)

-- no term of the list from a place on shares a value with the row
pub record ApartFrom (row : Term) (nodes : List Node) (end : ℕ) : Type 0 where
  pub within : end ≤ length nodes
  pub apart : (i : ℕ) (d : Node) → end ≤ i → i < length nodes → (get_or nodes i d).is_listed ≡ true → agree row (get_or nodes i d).term ≡ false

pub apart_none : (row : Term) (nodes : List Node) (n : ℕ) → n ≡ length nodes → ApartFrom row nodes n
apart_none row nodes n e = record { within = omega arith; apart = λ i d low below. absurd (omega arith) }

-- what a node holds is left out where it shares no value with the row
pub apart_left_out : (row : Term) (nodes : List Node) (end at : ℕ) (n : Node) → IsNested nodes → ApartFrom row nodes end → at + 1 ≡ end → n ≡ get_or nodes at n → agree row n.term ≡ false → ApartFrom row nodes n.from
apart_left_out row nodes end at n nested a e is none = record {
  within = let w = a.within in let b = back in omega arith;
  apart = λ i d low below l. ⊎_elim
      (λ before. held i d (nested.includes at i n here (subst (λ (m : Node). m.from ≤ i) is low) before (subst (λ (m : Node). m.is_listed ≡ true) (get_or_default nodes i d n below) l)) below)
      (λ after. ⊎_elim (λ same. ap (λ (m : Node). agree row m.term) (sym (is ∙ (ap (λ k. get_or nodes k n) (sym same) ∙ get_or_default nodes i n d below))) ∙ none)
      (λ ne. a.apart i d (omega arith) below l) (cases_eq i at)) (cases_lt i at);
}
  where
    here : at < length nodes
    here = let w = a.within in omega arith

    back : n.from ≤ at
    back = subst (λ (m : Node). m.from ≤ at) (sym is) (nested.back at n here)

    held : (i : ℕ) (d : Node) → Includes (get_or nodes at n).term (get_or nodes i n).term → i < length nodes → agree row (get_or nodes i d).term ≡ false
    held i d wide below = ⊎_elim
        (λ some.
        let x = shared_from_agree row (get_or nodes i d).term some in
        let inner = subst (λ (m : Node). Holds m.term x.0) (get_or_default nodes i d n below) x.2 in
        let outer = subst (λ (m : Node). Holds m.term x.0) (sym is) (wide x.0 inner) in
        absurd (false≢true (sym none ∙ agree_from_shared row n.term x.0 x.1 outer)))
        (λ rest. rest) (cases_Bool (agree row (get_or nodes i d).term))

-- once all nodes are passed, the row is clear of the list
pub apart_all : (row : Term) (nodes : List Node) (end : ℕ) → ApartFrom row nodes end → end ≡ 0 → IsClear (listed nodes) row
apart_all row nodes end a e x p held =
    let s = stands nodes held.0 held.1 in
    let d : Node = record { term = row; from = 0; is_listed = false } in
    let at = s.2 d in
    false≢true (sym (a.apart s.0 d (omega arith) s.1 at.0)
    ∙ agree_from_shared row (get_or nodes s.0 d).term x p (subst (λ (t : Term). Holds t x) (sym at.1) held.2))

-- a node of the list that shares a value with the row
pub met_at : (row : Term) (nodes : List Node) (end at : ℕ) (n : Node) → ApartFrom row nodes end → at + 1 ≡ end → n ≡ get_or nodes at n → n.is_listed ≡ true → agree row n.term ≡ true → Contains (listed nodes) n.term × ShareValue row n.term
met_at row nodes end at n a e is l some = (
  subst (λ (m : Node). Contains (listed nodes) m.term) (sym is) (listed_at nodes at n (let w = a.within in omega arith) (subst (λ (m : Node). m.is_listed ≡ true) is l)),
  shared_from_agree row n.term some,
)

-- a term of the list at a place
pub met_there : (row : Term) (nodes : List Node) (at : ℕ) (n : Node) → at < length nodes → n ≡ get_or nodes at n → n.is_listed ≡ true → agree row n.term ≡ true → MeetsSome (listed nodes) row
met_there row nodes at n below is l some =
    let x = shared_from_agree row n.term some in
    let there = subst (λ (m : Node). Contains (listed nodes) m.term) (sym is) (listed_at nodes at n below (subst (λ (m : Node). m.is_listed ≡ true) is l)) in
    (x.0, (n.term, there, x.2), x.1)

-- each term has a 0, a 1 or a dash at a column
pub parts_same : (column : ℕ) (terms : List Term) → HasSameTerms terms ((filter (has_zero column) terms ++ filter (has_one column) terms) ++ filter (has_dash column) terms)
parts_same column terms t = (
  λ h. ⊎_elim
      (λ k. ⊎_elim (λ z. (Contains-from_filter (has_zero column) terms t z).0) (λ o. (Contains-from_filter (has_one column) terms t o).0)
      (Contains-append_cases zeros ones t k))
      (λ k. (Contains-from_filter (has_dash column) terms t k).0) (Contains-append_cases (zeros ++ ones) dashes t h),
  λ h. by_bits (bit_and t.value column == 0) (bit_and t.care column == 0)
      (λ e. Contains-append_left (zeros ++ ones) dashes t (Contains-append_left zeros ones t (Contains-filter (has_zero column) terms t h e)))
      (λ e. Contains-append_left (zeros ++ ones) dashes t (Contains-append_right zeros ones t (Contains-filter (has_one column) terms t h e)))
      (λ e. Contains-append_right (zeros ++ ones) dashes t (Contains-filter (has_dash column) terms t h e)),
)
  where
    zeros : List Term
    zeros = filter (has_zero column) terms

    ones : List Term
    ones = filter (has_one column) terms

    dashes : List Term
    dashes = filter (has_dash column) terms

    by_bits : {A : Type 0} (v c : Bool) → ((v && not c) ≡ true → A) → (not v ≡ true → A) → ((v && c) ≡ true → A) → A
    by_bits true true z o d = d refl
    by_bits true false z o d = z refl
    by_bits false c z o d = o refl

-- the three parts, one after the other
pub added_parts : (before first second after : List Node) (terms zeros ones dashes : List Term) (column : ℕ) → zeros ≡ filter (has_zero column) terms → ones ≡ filter (has_one column) terms → dashes ≡ filter (has_dash column) terms → IsAdded before zeros first → IsAdded first ones second → IsAdded second dashes after → IsAdded before terms after
added_parts before first second after terms zeros ones dashes column z o d a b c =
    added_same before after terms ((zeros ++ ones) ++ dashes)
    (rw (z, o, d) (parts_same column terms))
    (added_then before second after (zeros ++ ones) dashes (added_then before first second zeros ones a b) c)
