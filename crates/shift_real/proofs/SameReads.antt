-- A value of bits is one wherever the bits that matter are the same.
use Rattle.std.proofs.Common.{◌≡◌, ◌≢◌, ◌⊎◌, ℕ, zero, suc, ◌+◌, ◌<◌, inl, inr, Bool, true, false, Some, List, [], ◌∷◌, ◌++◌, length, get_or, slice_get, refl, ap, sym, ◌∙◌, subst, arith, append_assoc, length-append}
use Rattle.std.proofs.lemmas.Bool.{cases_lt, false≢true}
use Rattle.list_facts.specs.Laws.Places.{get_behind}
use Rattle.dependence.specs.Inputs.{DifferAlone}

-- bits that do not differ are one
same_unless : (a b : Bool) → ((a ≡ b → ⊥) → ⊥) → a ≡ b
same_unless true true h = refl
same_unless true false h = absurd (h (λ e. false≢true (sym e)))
same_unless false true h = absurd (h false≢true)
same_unless false false h = refl

same_or_not : (a b : Bool) → (a ≡ b) ⊎ (a ≢ b)
same_or_not true true = inl refl
same_or_not true false = inr (λ e. false≢true (sym e))
same_or_not false true = inr false≢true
same_or_not false false = inl refl

-- two bits for each number agree below a count, or differ at one number
pub all_or_one : (f g : ℕ → Bool) (count : ℕ) → ((x : ℕ) → x < count → f x ≡ g x) ⊎ ((x : ℕ) × (x < count) × (f x ≢ g x))
all_or_one f g zero = inl (λ x lt. absurd (omega arith))
all_or_one f g (suc n) =
    elim (all_or_one f g n) [
      | inr found ↦ inr (found.0, omega (arith, found.1), found.2)
      | inl all ↦ elim (same_or_not (f n) (g n)) [
        | inr apart ↦ inr (n, omega arith, apart)
        | inl same ↦ inl (λ x lt. elim (cases_lt x n) [
          | inl below ↦ all x below
          | inr last ↦ let at : n ≡ x = omega arith in subst (λ (y : ℕ). f y ≡ g y) at same
        ])
      ]
    ]

-- lists of bits that have one bit apart
seam : (p u : List Bool) (b : Bool) → slice_get (p ++ b ∷ u) (length p) ≡ Some b
seam p u b = let e : length p ≡ length p + 0 = omega arith in ap (slice_get (p ++ b ∷ u)) e ∙ get_behind p (b ∷ u) 0

elsewhere : (p u : List Bool) (b c : Bool) (k : ℕ) → k ≢ length p → slice_get (p ++ b ∷ u) k ≡ slice_get (p ++ c ∷ u) k
elsewhere [] u b c zero other = absurd (other refl)
elsewhere [] u b c (suc k) other = refl
elsewhere (q ∷ p) u b c zero other = refl
elsewhere (q ∷ p) u b c (suc k) other = elsewhere p u b c k (λ e. other (ap suc e))

module _ (value : List Bool → Bool) (count : ℕ) (Read : ℕ → Type 0) (matter : (a : ℕ) (x y : List Bool) → length x ≡ count → DifferAlone a x y → value x ≢ value y → Read a) where
  -- a bit that is not read may be changed
  one_changed : (p u : List Bool) (b c : Bool) → length (p ++ b ∷ u) ≡ count → (Read (length p) → b ≡ c) → value (p ++ b ∷ u) ≡ value (p ++ c ∷ u)
  one_changed p u b c long same =
      same_unless (value (p ++ b ∷ u)) (value (p ++ c ∷ u)) (λ differ.
      let changed : b ≡ c → ⊥ = λ e. differ (ap (λ (d : Bool). value (p ++ d ∷ u)) e) in
      changed (same (matter (length p) (p ++ b ∷ u) (p ++ c ∷ u) long (record {
        lengths = length-append p (b ∷ u) ∙ sym (length-append p (c ∷ u));
        there = λ e. changed (let whole : Some b ≡ Some c = sym (seam p u b) ∙ (e ∙ seam p u c) in cc);
        elsewhere = elsewhere p u b c;
      }) differ)))

  -- so bit by bit
  all_changed : (p u w : List Bool) → length (p ++ u) ≡ count → length u ≡ length w → ((j : ℕ) → Read (length p + j) → get_or u j false ≡ get_or w j false) → value (p ++ u) ≡ value (p ++ w)
  all_changed p [] [] long counts same = refl
  all_changed p [] (c ∷ w) long counts same = absurd (omega (arith, counts))
  all_changed p (b ∷ u) [] long counts same = absurd (omega (arith, counts))
  all_changed p (b ∷ u) (c ∷ w) long counts same =
      let here : length p + 0 ≡ length p = omega arith in
      let behind : length (p ++ c ∷ []) ≡ length p + 1 = omega (arith, length-append p (c ∷ [])) in
      one_changed p u b c long (λ among. same 0 (subst Read (sym here) among))
      ∙ (ap value (sym (append_assoc p (c ∷ []) u))
      ∙ (all_changed (p ++ c ∷ []) u w
      (omega (arith, long, behind, length-append (p ++ c ∷ []) u, length-append p (b ∷ u))) (omega (arith, counts))
      (λ j among.
      let e : length (p ++ c ∷ []) + j ≡ length p + suc j = omega (arith, behind) in
      same (suc j) (subst Read e among))
      ∙ ap value (append_assoc p (c ∷ []) w)))

  pub same_reads : (x y : List Bool) → length x ≡ count → length y ≡ count → ((a : ℕ) → Read a → get_or x a false ≡ get_or y a false) → value x ≡ value y
  same_reads x y long other same =
      all_changed [] x y long (long ∙ sym other) (λ j among. let e : 0 + j ≡ j = omega arith in same j (subst Read e among))
