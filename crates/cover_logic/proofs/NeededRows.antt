use Rattle.std.proofs.Common.{◌≡◌, ℕ, ◌+◌, ◌-◌, ◌<◌, ◌∙◌, ⊎_elim, true, false, append_assoc, length-append, length-drop, add-one, drop-cons, List, [], ◌∷◌, ◌++◌, length, take, drop, get_or, Option, Some, None, suc, sym, ap, subst, refl, arith}
use Rattle.std.specs.List.{All, Contains, remove}
use Rattle.std.specs.Option.{is_some}
use Rattle.std.proofs.lemmas.Bool.{cases_lt, false≢true}
use Rattle.std.proofs.lemmas.List.{take-append-le, drop-append-le, append-nil, take_all}
use Rattle.std.proofs.lemmas.List.Elements.{All-contains, All-nil, All-push}
use Rattle.list_facts.specs.Laws.Members.{Contains-here}
use Rattle.cover_logic.specs.declared.bundles.Entry.{Entry}
use Rattle.cover_terms.specs.declared.term.Term.{Term}
use Rattle.cover_terms.specs.Term.{FitsWidth, Holds, IsCovered}
use Rattle.cover_logic.specs.Inner.Entries.{IsMet, terms_in}
use Rattle.cover_terms.specs.Lists.{Covers, HasSameTerms}
use Rattle.cover_logic.specs.Inner.Rows.{AreNeededPrimes, AreNeededRows, ArePrimeRows, EachNeeded, IsClear, IsPrime, IsSole}
use Rattle.cover_terms.specs.Laws.Gaps.{IsNear, held_near, held_from_near}
use Rattle.cover_logic.proofs.Entries.{entry_of_term, term_of_entry}
use Rattle.cover_terms.specs.Laws.Terms.{agree_from_shared}
use Rattle.cover_terms.specs.Laws.Lists.{held_push, held_push_cases, held_left, held_right, held_cases, held_cons_cases}

-- the others hold each value that the row has in common with the terms
abbrev pub IsShared : Term → List Term → List Term → Type 0
IsShared row terms others = (x : ℕ) → Holds row x → IsCovered terms x → IsCovered others x

pub shared_more : (row : Term) (terms others : List Term) (t : Term) → IsShared row terms others → ((x : ℕ) → Holds row x → Holds t x → IsCovered others x) → IsShared row (terms ++ t ∷ []) others
shared_more row terms others t h one x p held = ⊎_elim (λ k. h x p k) (λ q. one x p q) (held_push_cases terms t x held)

-- the others hold each value that the row has in common with the entry's term
abbrev pub IsSharedAt : Term → List Term → Entry → Type 0
IsSharedAt row others e = (x : ℕ) → Holds row x → Holds e.term x → IsCovered others x

-- where they do so for each entry, they hold all that the row has in common with the terms of the entries
pub shared_all : (row : Term) (entries : List Entry) (others : List Term) → All (IsSharedAt row others) entries → IsShared row (terms_in entries) others
shared_all row entries others shared x p h =
    let e = entry_of_term entries h.0 h.1 in
    All-contains (IsSharedAt row others) entries e.0 shared e.1 x p (subst (λ (t : Term). Holds t x) (sym e.2) h.2)

-- a value of the row that the entries hold those hold that the row meets, and the other way round
pub sole_met : (row : Term) (entries near : List Entry) (others : List Term) (sole : Option ℕ) → IsMet row entries near → IsSole row (terms_in near) others sole → IsSole row (terms_in entries) others sole
sole_met row entries near others None met s = λ x p h.
    let e = entry_of_term entries h.0 h.1 in
    let q : Holds e.0.term x = subst (λ (t : Term). Holds t x) (sym e.2) h.2 in
    s x p (e.0.term, term_of_entry near e.0 ((met e.0).1 (e.1, agree_from_shared row e.0.term x p q)), q)
sole_met row entries near others (Some x) met s =
    let e = entry_of_term near s.1.0 s.1.1 in
    (s.0, (s.1.0, subst (λ (t : Term). Contains (terms_in entries) t) e.2 (term_of_entry entries e.0 ((met e.0).0 e.1).0), s.1.2), s.2)

-- the others are of the terms, and hold all that they have in common with the row
pub record HoldAlike (row : Term) (terms others : List Term) : Type 0 where
  pub inside : (x : ℕ) → Holds row x → IsCovered terms x → IsCovered others x
  pub back : (x : ℕ) → IsCovered others x → IsCovered terms x

pub near_alike : (row : Term) (terms others : List Term) → IsNear row terms others → HoldAlike row terms others
near_alike row terms others near = record { inside = held_near row terms others near; back = held_from_near row terms others near }

-- the rows that are kept and the rest hold what on holds, and each kept row is needed beside the rest
pub record AreKept (on rows kept rest : List Term) : Type 0 where
  pub among : All (Contains rows) kept
  pub covers : Covers (kept ++ rest) on
  pub needed : EachNeeded on kept rest

pub kept_none : (on rows : List Term) → Covers rows on → AreKept on rows [] rows
kept_none on rows covers = record { among = All-nil (Contains rows); covers = covers; needed = λ i below. absurd (omega arith) }

-- an element put at the end stays there when an earlier one goes
remove_push : (xs : List Term) (t : Term) (i : ℕ) → i < length xs → remove (xs ++ t ∷ []) i ≡ remove xs i ++ t ∷ []
remove_push xs t i h =
    ap (λ ys. ys ++ drop (suc i) (xs ++ t ∷ [])) (take-append-le i xs (t ∷ []) (omega arith))
    ∙ (ap (λ ys. take i xs ++ ys) (drop-append-le (suc i) xs (t ∷ []) h) ∙ sym (append_assoc (take i xs) (drop (suc i) xs) (t ∷ [])))

-- and when it goes itself, the others stay
remove_last : (xs : List Term) (t : Term) → remove (xs ++ t ∷ []) (length xs) ≡ xs
remove_last [] t = refl
remove_last (x ∷ xs) t = ap (λ ys. x ∷ ys) (remove_last xs t)

-- what the rest holds, it holds with one row more
later : (row : Term) (rest : List Term) (x : ℕ) → IsCovered rest x → IsCovered (row ∷ rest) x
later row rest x h = held_right (row ∷ []) rest x h

moved : (kept rest : List Term) (row : Term) (x : ℕ) → IsCovered (kept ++ row ∷ rest) x → IsCovered ((kept ++ row ∷ []) ++ rest) x
moved kept rest row x h =
    ⊎_elim (λ k. held_left (kept ++ row ∷ []) rest x (held_left kept (row ∷ []) x k))
    (λ k. ⊎_elim (λ p. held_left (kept ++ row ∷ []) rest x (held_push kept row x p)) (λ q. held_right (kept ++ row ∷ []) rest x q) (held_cons_cases row rest x k))
    (held_cases kept (row ∷ rest) x h)

moved_back : (kept rest : List Term) (row : Term) (x : ℕ) → IsCovered ((kept ++ row ∷ []) ++ rest) x → IsCovered (kept ++ row ∷ rest) x
moved_back kept rest row x h =
    ⊎_elim (λ k. ⊎_elim (λ q. held_left kept (row ∷ rest) x q) (λ p. held_right kept (row ∷ rest) x (row, Contains-here row rest, p)) (held_push_cases kept row x k))
    (λ k. held_right kept (row ∷ rest) x (later row rest x k))
    (held_cases (kept ++ row ∷ []) rest x h)

-- a row with a value of on that the others do not hold is kept
pub row_kept : (on rows kept rest others : List Term) (row : Term) (sole : Option ℕ) → AreKept on rows kept (row ∷ rest) → Contains rows row → HoldAlike row (kept ++ rest) others → IsSole row on others sole → is_some sole ≡ true → AreKept on rows (kept ++ row ∷ []) rest
row_kept on rows kept rest others row None a among near sole some = absurd (false≢true some)
row_kept on rows kept rest others row (Some x) a among near sole some = record {
  among = All-push (Contains rows) kept row a.among among;
  covers = λ y h. moved kept rest row y (a.covers y h);
  needed = λ i below. ⊎_elim (λ h. earlier i h) (λ h. itself i (omega (arith, length-append kept (row ∷ [])))) (cases_lt i (length kept));
}
  where
    Needed : ℕ → Type 0
    Needed i = (y : ℕ) × IsCovered on y × (IsCovered (remove (kept ++ row ∷ []) i ++ rest) y → ⊥)

    earlier : (i : ℕ) → i < length kept → Needed i
    earlier i h =
        let w = a.needed i h in
        (w.0, w.1, λ held. w.2 (moved_back (remove kept i) rest row w.0 (subst (λ (ts : List Term). IsCovered (ts ++ rest) w.0) (remove_push kept row i h) held)))

    itself : (i : ℕ) → i ≡ length kept → Needed i
    itself i e = (
      x,
      sole.1,
      λ held. sole.2 (near.inside x sole.0
          (subst (λ (ts : List Term). IsCovered (ts ++ rest) x) (ap (λ j. remove (kept ++ row ∷ []) j) e ∙ remove_last kept row) held)),
    )

-- a row whose values of on the others hold is left out
pub row_left_out : (on rows kept rest others : List Term) (row : Term) (sole : Option ℕ) → AreKept on rows kept (row ∷ rest) → HoldAlike row (kept ++ rest) others → IsSole row on others sole → is_some sole ≡ false → AreKept on rows kept rest
row_left_out on rows kept rest others row (Some x) a near sole none = absurd (false≢true (sym none))
row_left_out on rows kept rest others row None a near sole none = record {
  among = a.among;
  covers = λ x h.
      ⊎_elim (λ k. held_left kept rest x k)
      (λ k. ⊎_elim (λ p. near.back x (sole x p h)) (λ q. held_right kept rest x q) (held_cons_cases row rest x k))
      (held_cases kept (row ∷ rest) x (a.covers x h));
  needed = λ i below.
      let w = a.needed i below in
      (w.0, w.1, λ held. w.2 (⊎_elim (λ k. held_left (remove kept i) (row ∷ rest) w.0 k) (λ k. held_right (remove kept i) (row ∷ rest) w.0 (later row rest w.0 k)) (held_cases (remove kept i) rest w.0 held)));
}

-- the rest, from its first row on
pub rest_from : (rows : List Term) (i : ℕ) (row : Term) → i < length rows → row ≡ get_or rows i row → drop i rows ≡ row ∷ drop (i + 1) rows
rest_from rows i row h e = rw (add-one, drop-cons rows i row) (ap (λ (t : Term). t ∷ drop (suc i) rows) (sym e))

-- the slice from a place on
pub rest_slice : (rows : List Term) (n : ℕ) → take (length rows - n) (drop n rows) ≡ drop n rows
rest_slice rows n = take_all (length rows - n) (drop n rows) (omega (arith, length-drop n rows))

-- with nothing left, the rows that are kept are those that are needed
pub needed_from_kept : (on rows kept rest : List Term) → rest ≡ [] → AreKept on rows kept rest → AreNeededRows on rows kept
needed_from_kept on rows kept rest e a = record {
  among = a.among;
  covers = λ x p. subst (λ (ts : List Term). IsCovered ts x) (ap (λ ys. kept ++ ys) e ∙ append-nil kept) (a.covers x p);
  needed = subst (λ (ts : List Term). EachNeeded on kept ts) e a.needed;
}

-- the others are the rows that are kept and the rest
pub same_alike : (row : Term) (terms : List Term) → HoldAlike row terms terms
same_alike row terms = record { inside = λ x p h. h; back = λ x h. h }

-- the same for a list of the same terms
pub needed_from_same : (on list rows kept : List Term) → HasSameTerms on list → AreNeededRows list rows kept → AreNeededRows on rows kept
needed_from_same on list rows kept same n = record {
  among = n.among;
  covers = λ x h. n.covers x (h.0, (same h.0).1 h.1, h.2);
  needed = λ i below. let w = n.needed i below in (w.0, (w.1.0, (same w.1.0).0 w.1.1, w.1.2), w.2);
}

-- what is true of the rows is true of those that are kept
pub kept_all : (P : Term → Type 0) (rows kept : List Term) → All (Contains rows) kept → All P rows → All P kept
kept_all P rows kept among h = λ k d below. All-contains P rows (get_or kept k d) h (among k d below)

-- rows that need each of their literals, without those that can be left out
pub needed_primes : (on off : List Term) (width : ℕ) (rows kept : List Term) → ArePrimeRows on off width rows → AreNeededRows on rows kept → AreNeededPrimes on off width kept
needed_primes on off width rows kept p n = record {
  primes = record {
    covers = n.covers;
    clear = kept_all (IsClear off) rows kept n.among p.clear;
    prime = kept_all (IsPrime off) rows kept n.among p.prime;
    fits = kept_all (FitsWidth width) rows kept n.among p.fits;
  };
  needed = n.needed;
}
