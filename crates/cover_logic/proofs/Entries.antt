use Rattle.std.proofs.Common.{◌≡◌, ◌↔◌, ℕ, ◌+◌, ◌<◌, ◌≤◌, ◌∙◌, List, [], ◌∷◌, ◌++◌, length, get_or, sym, ap, subst, ⊎_elim, arith}
use Rattle.std.specs.List.{All, Contains}
use Rattle.std.proofs.lemmas.Bool.{cases_lt}
use Rattle.std.proofs.lemmas.List.{get_or_default}
use Rattle.std.proofs.lemmas.List.Elements.{All-contains, All-nil, All-push, Contains-append_left, Contains-get_or, Contains-push}
use Rattle.list_facts.specs.Laws.Members.{Contains-cons, Contains-here, Contains-none, Contains-there}
use Rattle.cover_logic.specs.declared.bundles.Entry.{Entry}
use Rattle.cover_terms.specs.declared.term.Term.{Term}
use Rattle.cover_logic.specs.Inner.Entries.{terms_in, EntryFits, HasNumber, IsNumbered}
use Rattle.cover_terms.specs.Term.{FitsWidth}
use Rattle.cover_terms.specs.Lists.{HasSameTerms}

-- the term of an entry is among the terms, and each of the terms is that of an entry
pub term_of_entry : (entries : List Entry) (e : Entry) → Contains entries e → Contains (terms_in entries) e.term
term_of_entry [] e h = absurd (Contains-none e h)
term_of_entry (x ∷ xs) e h =
    ⊎_elim (λ same. subst (λ (y : Entry). Contains (x.term ∷ terms_in xs) y.term) same (Contains-here x.term (terms_in xs)))
    (λ k. Contains-there x.term e.term (terms_in xs) (term_of_entry xs e k)) (Contains-cons x e xs h)

pub entry_of_term : (entries : List Entry) (t : Term) → Contains (terms_in entries) t → (e : Entry) × Contains entries e × (e.term ≡ t)
entry_of_term [] t h = absurd (Contains-none t h)
entry_of_term (x ∷ xs) t h =
    ⊎_elim (λ same. (x, Contains-here x xs, same))
    (λ k. let rest = entry_of_term xs t k in (rest.0, Contains-there x rest.0 xs rest.1, rest.2)) (Contains-cons x.term t (terms_in xs) h)

-- entries with the numbers of the terms have the same terms
pub same_terms : (terms : List Term) (entries : List Entry) → IsNumbered terms entries → HasSameTerms terms (terms_in entries)
same_terms terms entries n t = (
  λ h.
      let e = entry_of_term entries t h in
      let at = All-contains (HasNumber terms) entries e.0 n.among e.1 in
      subst (λ (u : Term). Contains terms u) (at.1 t ∙ e.2) (Contains-get_or terms e.0.number t at.0),
  λ h.
      let k = term_of_entry entries _ (n.all h.0 t h.1) in
      subst (λ (u : Term). Contains (terms_in entries) u) h.2 k,
)

-- the numbers stay where the entries are the same
pub numbered_same : (terms : List Term) (entries others : List Entry) → IsNumbered terms entries → ((e : Entry) → Contains others e ↔ Contains entries e) → IsNumbered terms others
numbered_same terms entries others n same = record {
  among = λ k d below. All-contains (HasNumber terms) entries (get_or others k d) n.among ((same (get_or others k d)).0 (Contains-get_or others k d below));
  all = λ i d below. (same (record { term = get_or terms i d; number = i })).1 (n.all i d below);
}

-- one more entry, with the next number
pub record AreFirst (terms : List Term) (count : ℕ) (entries : List Entry) : Type 0 where
  pub among : All (HasNumber terms) entries
  pub all : (i : ℕ) (d : Term) → i < count → i < length terms → Contains entries (record { term = get_or terms i d; number = i })

pub first_none : (terms : List Term) → AreFirst terms 0 []
first_none terms = record { among = All-nil (HasNumber terms); all = λ i d none below. absurd (omega arith) }

pub first_more : (terms : List Term) (count : ℕ) (entries : List Entry) (t : Term) → count < length terms → t ≡ get_or terms count t → AreFirst terms count entries → AreFirst terms (count + 1) (entries ++ (record { term = t; number = count }) ∷ [])
first_more terms count entries t below is a = record {
  among = All-push (HasNumber terms) entries e a.among (below, λ d. get_or_default terms count d t below ∙ sym is);
  all = λ i d low in'. ⊎_elim
      (λ lt. Contains-append_left entries (e ∷ []) _ (a.all i d lt in'))
      (λ ge.
      let same : i ≡ count = omega arith in
      let term : get_or terms i d ≡ t = ap (λ k. get_or terms k d) same ∙ (get_or_default terms count d t below ∙ sym is) in
      rw (term, same) (Contains-push entries e))
      (cases_lt i count);
}
  where
    e : Entry
    e = record { term = t; number = count }

pub first_all : (terms : List Term) (count : ℕ) (entries : List Entry) → length terms ≤ count → AreFirst terms count entries → IsNumbered terms entries
first_all terms count entries all a = record { among = a.among; all = λ i d below. a.all i d (omega arith) below }

-- what is true of the widths of the terms is true of those of their entries
pub numbered_fit : (width : ℕ) (terms : List Term) (entries : List Entry) → IsNumbered terms entries → All (FitsWidth width) terms → All (EntryFits width) entries
numbered_fit width terms entries n fits k d below =
    let e = n.among k d below in
    subst (λ (t : Term). FitsWidth width t) (e.1 d.term) (fits (get_or entries k d).number d.term e.0)
