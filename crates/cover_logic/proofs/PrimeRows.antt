use Rattle.std.proofs.Common.{◌≡◌, ℕ, List, [], ◌∷◌, ◌++◌, not, false, ◌⊎◌, ⊎_elim, inl, inr, ap, subst, sym}
use Rattle.std.specs.List.{All, Contains, filter}
use Rattle.std.proofs.lemmas.Bool.{cases_Bool}
use Rattle.std.proofs.lemmas.List.Elements.{All-push, All-nil, All-contains, Contains-append_left, Contains-push_cases}
use Rattle.list_facts.specs.Laws.Members.{Contains-filter, Contains-from_filter}
use Rattle.cover_terms.specs.declared.term.Term.{Term}
use Rattle.cover_terms.specs.Term.{FitsWidth, Holds, IsCovered}
use Rattle.cover_terms.specs.Pair.{Includes, refines}
use Rattle.cover_terms.specs.Lists.{HasSameTerms}
use Rattle.cover_logic.specs.Inner.Rows.{ArePrimeRows, IsAllHeld, IsClear, IsPrime}
use Rattle.cover_terms.specs.Laws.Terms.{refines_includes}
use Rattle.cover_terms.specs.Laws.Lists.{held_push, held_left}

-- the rows and the terms that are left hold what on holds; the rows are prime and clear of off, and so are the terms left
pub record ArePrimes (on off : List Term) (width : ℕ) (Left : Term → Type 0) (rows : List Term) : Type 0 where
  pub held : (x : ℕ) → IsCovered on x → IsCovered rows x ⊎ ((t : Term) × Left t × Holds t x)
  pub clear : All (IsClear off) rows
  pub prime : All (IsPrime off) rows
  pub fits : All (FitsWidth width) rows
  pub left_clear : (t : Term) → Left t → IsClear off t
  pub left_fits : (t : Term) → Left t → FitsWidth width t

pub primes_none : (on off : List Term) (width : ℕ) (Left : Term → Type 0) → ((t : Term) → Contains on t → Left t) → ((t : Term) → Left t → Contains on t) → All (IsClear off) on → All (FitsWidth width) on → ArePrimes on off width Left []
primes_none on off width Left all among clear fits = record {
  held = λ x h. inr (h.0, all h.0 h.1, h.2);
  clear = All-nil (IsClear off);
  prime = All-nil (IsPrime off);
  fits = All-nil (FitsWidth width);
  left_clear = λ t l. All-contains (IsClear off) on t clear (among t l);
  left_fits = λ t l. All-contains (FitsWidth width) on t fits (among t l);
}

-- one row more; what is no longer left it includes
pub primes_more : (on off : List Term) (width : ℕ) (Before After : Term → Type 0) (rows : List Term) (row : Term) → ArePrimes on off width Before rows → ((t : Term) → Before t → Includes row t ⊎ After t) → ((t : Term) → After t → Before t) → IsClear off row → IsPrime off row → FitsWidth width row → ArePrimes on off width After (rows ++ row ∷ [])
primes_more on off width Before After rows row p gone among clear prime fits = record {
  held = λ x h. ⊎_elim (λ k. inl (held_left rows (row ∷ []) x k))
      (λ k. ⊎_elim (λ includes. inl (held_push rows row x (includes x k.2))) (λ after. inr (k.0, after, k.2)) (gone k.0 k.1)) (p.held x h);
  clear = All-push (IsClear off) rows row p.clear clear;
  prime = All-push (IsPrime off) rows row p.prime prime;
  fits = All-push (FitsWidth width) rows row p.fits fits;
  left_clear = λ t l. p.left_clear t (among t l);
  left_fits = λ t l. p.left_fits t (among t l);
}

-- no row more; the seed's values the rows hold
pub primes_skip : (on off : List Term) (width : ℕ) (left rows : List Term) (seed : Term) → ArePrimes on off width (Contains (left ++ seed ∷ [])) rows → IsAllHeld rows seed → ArePrimes on off width (Contains left) rows
primes_skip on off width left rows seed p all = record {
  held = λ x h. ⊎_elim (λ k. inl k)
      (λ k. ⊎_elim (λ e. inr (k.0, e, k.2)) (λ same. inl (all x (subst (λ (t : Term). Holds t x) (sym same) k.2))) (Contains-push_cases left seed k.0 k.1)) (p.held x h);
  clear = p.clear;
  prime = p.prime;
  fits = p.fits;
  left_clear = λ t l. p.left_clear t (Contains-append_left left (seed ∷ []) t l);
  left_fits = λ t l. p.left_fits t (Contains-append_left left (seed ∷ []) t l);
}

-- rows for the same terms of off
pub primes_same : (on off list : List Term) (width : ℕ) (rows : List Term) → HasSameTerms off list → ArePrimeRows on list width rows → ArePrimeRows on off width rows
primes_same on off list width rows same p = record {
  covers = p.covers;
  clear = λ k d below x h held. p.clear k d below x h (held.0, (same held.0).1 held.1, held.2);
  prime = λ k d below column l. let w = p.prime k d below column l in (w.0, (w.1.0, (same w.1.0).0 w.1.1, w.1.2), w.2);
  fits = p.fits;
}

pub clear_same : (on off list : List Term) → HasSameTerms off list → All (IsClear off) on → All (IsClear list) on
clear_same on off list same clear = λ k d below x h held. clear k d below x h (held.0, (same held.0).0 held.1, held.2)

pub primes_all : (on off : List Term) (width : ℕ) (Left : Term → Type 0) (rows : List Term) → ((t : Term) → Left t → ⊥) → ArePrimes on off width Left rows → ArePrimeRows on off width rows
primes_all on off width Left rows none p = record {
  covers = λ x h. ⊎_elim (λ k. k) (λ k. absurd (none k.0 k.1)) (p.held x h);
  clear = p.clear;
  prime = p.prime;
  fits = p.fits;
}

-- of a list, without its last term and those that the row holds whole
pub gone_from_list : (left : List Term) (seed row : Term) → Includes row seed → (t : Term) → Contains (left ++ seed ∷ []) t → Includes row t ⊎ Contains (filter (λ u. not (refines row u)) left) t
gone_from_list left seed row includes t h = ⊎_elim
    (λ k. ⊎_elim (λ e. inl (refines_includes row t e)) (λ e. inr (Contains-filter (λ u. not (refines row u)) left t k (ap not e))) (cases_Bool (refines row t)))
    (λ same. inl (subst (λ (u : Term). Includes row u) same includes)) (Contains-push_cases left seed t h)

pub left_in_list : (left : List Term) (seed row t : Term) → Contains (filter (λ u. not (refines row u)) left) t → Contains (left ++ seed ∷ []) t
left_in_list left seed row t h = Contains-append_left left (seed ∷ []) t (Contains-from_filter (λ u. not (refines row u)) left t h).0

-- the same of any other way to keep them
pub gone_from : (row seed : Term) (Before Taken After : Term → Type 0) → Includes row seed → ((t : Term) → Before t → Taken t ⊎ (seed ≡ t)) → ((t : Term) → Taken t → refines row t ≡ false → After t) → (t : Term) → Before t → Includes row t ⊎ After t
gone_from row seed Before Taken After includes rest left t h = ⊎_elim
    (λ k. ⊎_elim (λ e. inl (refines_includes row t e)) (λ e. inr (left t k e)) (cases_Bool (refines row t)))
    (λ same. inl (subst (λ (u : Term). Includes row u) same includes)) (rest t h)
