use Rattle.std.proofs.Common.{ℕ, List, [], ◌∷◌, ◌++◌, ⊎_elim, get_or}
use Rattle.std.specs.List.{All, Contains}
use Rattle.std.specs.List.Sorted.{IsPermutation}
use Rattle.std.proofs.lemmas.List.Elements.{All-contains, All-nil, All-push, All-weaker, Contains-append_left, Contains-get_or, Contains-push}
use Rattle.std.proofs.lemmas.List.Sorted.{Contains-permutation, IsPermutation-sym}
use Rattle.cover_terms.specs.declared.term.Term.{Term}
use Rattle.cover_terms.specs.Term.{IsCovered}
use Rattle.cover_terms.specs.Lists.{Covers, HasSameTerms, HasSameValues, IsWithinOne}
use Rattle.cover_terms.specs.Laws.Lists.{held_left, held_push, held_push_cases}

pub values_none : HasSameValues [] []
values_none = record { among = All-nil (Contains []); covers = λ x h. h }

-- one term more in both lists
pub values_push : (terms others : List Term) (t : Term) → HasSameValues terms others → HasSameValues (terms ++ t ∷ []) (others ++ t ∷ [])
values_push terms others t h = record {
  among = All-push (Contains (terms ++ t ∷ [])) others t
      (All-weaker (Contains terms) (Contains (terms ++ t ∷ [])) (λ u k. Contains-append_left terms (t ∷ []) u k) others h.among) (Contains-push terms t);
  covers = λ x held.
      ⊎_elim (λ k. held_left others (t ∷ []) x (h.covers x k)) (λ p. held_push others t x p) (held_push_cases terms t x held);
}

-- one term more, whose values the others hold
pub values_spared : (terms others : List Term) (t : Term) → HasSameValues terms others → IsWithinOne others t → HasSameValues (terms ++ t ∷ []) others
values_spared terms others t h within = record {
  among = All-weaker (Contains terms) (Contains (terms ++ t ∷ [])) (λ u k. Contains-append_left terms (t ∷ []) u k) others h.among;
  covers = λ x held. ⊎_elim (λ k. h.covers x k) (λ p. (within.0, within.1, within.2 x p)) (held_push_cases terms t x held);
}

-- the terms in another order
pub values_permuted : (terms sorted others : List Term) → IsPermutation terms sorted → HasSameValues sorted others → HasSameValues terms others
values_permuted terms sorted others p h = record {
  among = All-weaker (Contains sorted) (Contains terms) (λ u k. Contains-permutation sorted terms u (IsPermutation-sym terms sorted p) k) others h.among;
  covers = λ x held. h.covers x (held.0, Contains-permutation terms sorted held.0 p held.1, held.2);
}

-- the same terms as the others
pub values_same : (terms others list : List Term) → HasSameValues terms others → HasSameTerms others list → HasSameValues terms list
values_same terms others list h same = record {
  among = λ k d below.
      All-contains (Contains terms) others (get_or list k d) h.among ((same (get_or list k d)).0 (Contains-get_or list k d below));
  covers = λ x held. let k = h.covers x held in (k.0, (same k.0).1 k.1, k.2);
}

-- what covers the terms covers a list of the same terms
pub covers_same : (rows terms list : List Term) → HasSameTerms terms list → Covers rows terms → Covers rows list
covers_same rows terms list same covers x h = covers x (h.0, (same h.0).0 h.1, h.2)

-- what the others hold, the terms hold
pub covered_back : (terms others : List Term) → HasSameValues terms others → (x : ℕ) → IsCovered others x → IsCovered terms x
covered_back terms others h x k = (k.0, All-contains (Contains terms) others k.0 h.among k.1, k.2)

-- what is true of each of the terms is true of the others
pub values_all : (P : Term → Type 0) (terms others : List Term) → HasSameValues terms others → All P terms → All P others
values_all P terms others h all = All-weaker (Contains terms) P (λ t k. All-contains P terms t all k) others h.among
