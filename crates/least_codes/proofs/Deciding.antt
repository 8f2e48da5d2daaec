-- Whether bits permit a value can be decided.
use Rattle.std.proofs.Common.{◌≡◌, ◌⊎◌, ℕ, zero, suc, ◌<◌, Bool, true, false, Contains, List, [], ◌∷◌, length, get_or, inl, inr, refl, ap, subst, sym, arith}
use Rattle.std.proofs.lemmas.Bool.{cases_eq}
use Rattle.std.specs.Int.{bit_at}
use Rattle.kiss_file.specs.declared.file.KissFile.{KissFile}
use Rattle.dependence.specs.SufficientBits.{AgreeOn, PermitsValue}
use Rattle.least_codes.proofs.Ascending.{contains_cases, contains_head, contains_later}

abbrev pub Decided : Type 0 → Type 0
Decided P = P ⊎ (P → ⊥)

-- of numbers below n, all are so or one is not
pub all_decided : (Q : ℕ → Type 0) → ((s : ℕ) → Decided (Q s)) → (n : ℕ) → Decided ((s : ℕ) → s < n → Q s)
all_decided Q decide zero = inl (λ s below. absurd (omega (arith, below)))
all_decided Q decide (suc n) =
    elim (all_decided Q decide n) [
      | inl all ↦ elim (decide n) [
        | inl here ↦ inl (λ s below. elim (cases_eq s n) [
          | inl at ↦ subst Q (sym at) here
          | inr other ↦ all s (omega (arith, below, other))
        ])
        | inr not ↦ inr (λ each. not (each n (omega arith)))
      ]
      | inr not ↦ inr (λ each. not (λ s below. each s (omega (arith, below))))
    ]

bools_decided : (a b : Bool) → Decided (a ≡ b)
bools_decided true true = inl refl
bools_decided true false = inr (λ e. (cc))
bools_decided false true = inr (λ e. (cc))
bools_decided false false = inl refl

abbrev AreSame : ℕ → (List Bool → Bool) → (List Bool → Bool) → Type 0
AreSame k f g = (x : List Bool) → length x ≡ k → f x ≡ g x

-- two tests of symbols of one length are the same or not
same_decided : (k : ℕ) (f g : List Bool → Bool) → Decided (AreSame k f g)
same_decided zero f g =
    elim (bools_decided (f []) (g [])) [
      | inl same ↦ inl (empty same)
      | inr other ↦ inr (λ all. other (all [] refl))
    ]
  where
    empty : f [] ≡ g [] → AreSame zero f g
    empty same [] size = same
    empty same (b ∷ x) size = absurd (omega (arith, size))
same_decided (suc k) f g =
    elim (same_decided k (λ x. f (true ∷ x)) (λ x. g (true ∷ x))) [
      | inl set ↦ elim (same_decided k (λ x. f (false ∷ x)) (λ x. g (false ∷ x))) [
        | inl clear ↦ inl (both set clear)
        | inr not ↦ inr (λ all. not (λ x size. all (false ∷ x) (ap suc size)))
      ]
      | inr not ↦ inr (λ all. not (λ x size. all (true ∷ x) (ap suc size)))
    ]
  where
    both : AreSame k (λ x. f (true ∷ x)) (λ x. g (true ∷ x)) → AreSame k (λ x. f (false ∷ x)) (λ x. g (false ∷ x)) → AreSame (suc k) f g
    both set clear [] size = absurd (omega (arith, size))
    both set clear (true ∷ x) size = set x (omega (arith, size))
    both set clear (false ∷ x) size = clear x (omega (arith, size))

-- codes agree on listed bits or not
agree_decided : (words : List ℕ) (s t : ℕ) (list : List ℕ) → Decided (AgreeOn words (Contains list) s t)
agree_decided words s t [] = inl (λ c is. absurd (omega (arith, is.1)))
agree_decided words s t (c ∷ list) =
    elim (cases_eq (bit_at (get_or words s 0) c) (bit_at (get_or words t 0) c)) [
      | inl here ↦ elim (agree_decided words s t list) [
        | inl later ↦ inl (λ d is. elim (contains_cases c list d is) [
          | inl at ↦ subst (λ (i : ℕ). bit_at (get_or words s 0) i ≡ bit_at (get_or words t 0) i) at here
          | inr in_rest ↦ later d in_rest
        ])
        | inr not ↦ inr (λ agree. not (λ d is. agree d (contains_later c list d is)))
      ]
      | inr other ↦ inr (λ agree. other (agree c (contains_head c list)))
    ]

module _ (F : KissFile) (words : List ℕ) (value : ℕ → List Bool → Bool) (list : List ℕ) where
  -- two states agree on the bits only if they give the same
  abbrev Permitted : ℕ → ℕ → Type 0
  Permitted s t = AgreeOn words (Contains list) s t → AreSame F.inputs (value s) (value t)

  permitted_decided : (s t : ℕ) → Decided (Permitted s t)
  permitted_decided s t =
      elim (agree_decided words s t list) [
        | inl agree ↦ elim (same_decided F.inputs (value s) (value t)) [
          | inl same ↦ inl (λ again. same)
          | inr other ↦ inr (λ permitted. other (permitted agree))
        ]
        | inr not ↦ inl (λ agree. absurd (not agree))
      ]

  pub permits_decided : Decided (PermitsValue F words (Contains list) value)
  permits_decided =
      elim (all_decided (λ s. (t : ℕ) → t < length F.states → Permitted s t) (λ s. all_decided (Permitted s) (permitted_decided s) (length F.states)) (length F.states)) [
        | inl all ↦ inl (λ s t x in_s in_t agree size. all s in_s t in_t agree x size)
        | inr not ↦ inr (λ permits. not (λ s in_s t in_t agree x size. permits s t x in_s in_t agree size))
      ]
