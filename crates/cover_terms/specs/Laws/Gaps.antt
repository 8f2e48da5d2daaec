use Rattle.std.proofs.Common.{◌≡◌, ℕ, ◌-◌, ◌<◌, ◌^◌, ◌∙◌, ⊎_elim, true, List, [], ◌∷◌, Option, Some, None, refl, min, bit_and, sym, ap, subst, arith}
use Rattle.std.specs.Int.{bit_at, bit_not, w128, trailing_zeros}
use Rattle.std.specs.List.{All, Contains, filter, slice_get}
use Rattle.std.specs.Option.{is_some}
use Rattle.std.proofs.lemmas.Bool.{false≢true}
use Rattle.std.proofs.lemmas.Nat.Bits.{bit_at-lt, bit_at_and, bit_at_not, bit_at-trailing_zeros}
use Rattle.std.proofs.lemmas.List.Elements.{All-contains}
use Rattle.list_facts.specs.Laws.Members.{Contains-filter, Contains-from_filter, Contains-none}
use Rattle.cover_terms.specs.declared.term.Term.{Term}
use Rattle.cover_terms.specs.Term.{Holds, IsCovered}
use Rattle.cover_terms.specs.Pair.{Includes, IsColumnHalf, IsIntersection, agree}
use Rattle.cover_terms.specs.Lists.{IsSharedGap, IsUncovered}
use Rattle.cover_terms.specs.Laws.Bits.{below_width, bits_of_zero, zero_or_one}
use Rattle.cover_terms.specs.Laws.Terms.{agree_at, agree_from_shared, holds_own}

-- the terms that share a value with the part
abbrev pub IsNear : Term → List Term → List Term → Type 0
IsNear part terms near = near ≡ filter (agree part) terms

-- they hold what the terms hold within the part
pub held_near : (part : Term) (terms near : List Term) → IsNear part terms near → (x : ℕ) → Holds part x → IsCovered terms x → IsCovered near x
held_near part terms near e x p h =
    (h.0, subst (λ (ts : List Term). Contains ts h.0) (sym e) (Contains-filter (agree part) terms h.0 h.1 (agree_from_shared part h.0 x p h.2)), h.2)

pub held_from_near : (part : Term) (terms near : List Term) → IsNear part terms near → (x : ℕ) → IsCovered near x → IsCovered terms x
held_from_near part terms near e x h =
    (h.0, (Contains-from_filter (agree part) terms h.0 (subst (λ (ts : List Term). Contains ts h.0) e h.1)).0, h.2)

-- so a gap among them is one among the terms
pub gap_from_near : (part : Term) (terms near : List Term) → IsNear part terms near → (gap : Option ℕ) → IsUncovered part near gap → IsUncovered part terms gap
gap_from_near part terms near e None h = λ x p. held_from_near part terms near e x (h x p)
gap_from_near part terms near e (Some x) h = (h.0, λ held. h.1 (held_near part terms near e x h.0 held))

pub none_first : (terms : List Term) → slice_get terms 0 ≡ None → terms ≡ []
none_first [] e = refl
none_first (t ∷ ts) e = absurd (false≢true (sym (ap is_some e)))

-- with no term, the part's own value is a gap
pub gap_where_none : (part : Term) (near : List Term) → near ≡ [] → Holds part part.value × (IsCovered near part.value → ⊥)
gap_where_none part near none = (holds_own part, λ h. Contains-none h.0 (subst (λ (ts : List Term). Contains ts h.0) none h.1))

-- a term that agrees with the part and has no literal outside it holds each of the part's values
includes_part : (part t : Term) → agree part t ≡ true → part.care < 2 ^ 128 → t.care < 2 ^ 128 → bit_and t.care (bit_not w128 part.care) ≡ 0 → Includes t part
unfolding Holds
includes_part part t a p q outside x holds i l =
    let within = below_width 128 t.care i q l in
    let looks = closed _ _ (bit_at-lt part.care i) l
    (sym (bit_at_and t.care (bit_not w128 part.care) i ∙ ap (λ n. min (bit_at t.care i) n) (bit_at_not w128 part.care i p within)) ∙ bits_of_zero _ outside i) in
    holds i looks ∙ agree_at part t a i looks l
  where
    closed : (a b : ℕ) → b < 2 → a ≡ 1 → min a (1 - b) ≡ 0 → b ≡ 1
    closed a b p q r = omega arith

pub held_by_one : (part : Term) (near : List Term) (t : Term) → All (λ u. agree part u ≡ true) near → Contains near t → part.care < 2 ^ 128 → t.care < 2 ^ 128 → bit_and t.care (bit_not w128 part.care) ≡ 0 → (x : ℕ) → Holds part x → IsCovered near x
held_by_one part near t all in' p q outside x holds =
    (t, in', includes_part part t (All-contains (λ u. agree part u ≡ true) near t all in') p q outside x holds)

-- the lowest column of a term outside the part is a dash of the part
pub dash_at_lowest : (care other : ℕ) → care < 2 ^ 128 → (outside : ℕ) → outside ≡ bit_and other (bit_not w128 care) → outside < 2 ^ 128 → (outside ≡ 0 → ⊥) → bit_at care (trailing_zeros w128 outside) ≡ 0
dash_at_lowest care other p outside e q some =
    let lowest = bit_at-trailing_zeros w128 outside (omega arith) q in
    let i = trailing_zeros w128 outside in
    dash _ _ (bit_at-lt other i) (bit_at-lt care i)
    (sym (ap (λ n. bit_at n i) e ∙ (bit_at_and other (bit_not w128 care) i ∙ ap (λ n. min (bit_at other i) n) (bit_at_not w128 care i p lowest.0))) ∙ lowest.1)
  where
    dash : (a b : ℕ) → a < 2 → b < 2 → min a (1 - b) ≡ 1 → b ≡ 0
    dash a b p q h = omega arith

-- a gap of a half is a gap of the part
pub gap_from_half : (part half : Term) (terms : List Term) (column bit x : ℕ) → IsColumnHalf part column bit half → Holds half x × (IsCovered terms x → ⊥) → Holds part x × (IsCovered terms x → ⊥)
gap_from_half part half terms column bit x h gap = (((h x).0 gap.0).0, gap.1)

-- with no gap in the half without the bit, what is a gap of the other half, or none, is one of the part
pub gap_from_halves : (part zero one : Term) (terms : List Term) (column : ℕ) → IsColumnHalf part column 0 zero → IsColumnHalf part column 1 one → IsUncovered zero terms None → (gap : Option ℕ) → IsUncovered one terms gap → IsUncovered part terms gap
gap_from_halves part zero one terms column low high none None h = λ x p.
    ⊎_elim (λ b. none x ((low x).1 (p, b))) (λ b. h x ((high x).1 (p, b))) (zero_or_one (bit_at x column) (bit_at-lt x column))
gap_from_halves part zero one terms column low high none (Some x) h = gap_from_half part one terms column 1 x high h

-- a gap of what the row shares with a term
pub shared_gap : (row t part : Term) (terms : List Term) (gap : Option ℕ) → IsIntersection row t part → IsUncovered part terms gap → IsSharedGap row t terms gap
shared_gap row t part terms None i h = λ x p q. h x ((i x).1 (p, q))
shared_gap row t part terms (Some x) i h = let both = (i x).0 h.0 in (both.0, both.1, h.1)
