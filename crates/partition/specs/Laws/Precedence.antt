-- The order of partitions is a strict total order.
use Rattle.std.proofs.Common.{◌≡◌, ℕ, zero, suc, ◌<◌, ◌≤◌, ◌≢◌, ◌⊎◌, List, length, get_or, sym, ◌∙◌, subst, inl, inr, arith}
use Rattle.std.proofs.lemmas.List.{ext_get_or}
use Rattle.std.proofs.lemmas.Bool.{cases_eq, cases_order}
use Rattle.partition.specs.Partition.{blocks_of}
use Rattle.partition.specs.Order.{Before, IsSmaller}

-- s is the first state at which the labels differ
record IsDifference (p q : List ℕ) (s : ℕ) : Type 0 where
  within : s < length p
  same : (t : ℕ) → t < s → get_or p t 0 ≡ get_or q t 0
  differs : get_or p s 0 ≢ get_or q s 0

difference : (p q : List ℕ) (s : ℕ) → s ≤ length p → ((t : ℕ) → t < s → get_or p t 0 ≡ get_or q t 0) ⊎ ((t : ℕ) × IsDifference p q t)
difference p q zero within = inl (λ t below. absurd (omega arith))
difference p q (suc s) within =
    elim (difference p q s (omega arith)) [
      | inr found ↦ inr found
      | inl same ↦ elim (cases_eq (get_or p s 0) (get_or q s 0)) [
        | inr differs ↦ inr (s, record { within = omega arith; same = same; differs = differs })
        | inl here ↦ inl (λ t below. elim (cases_eq t s) [
          | inl at ↦ subst (λ (u : ℕ). get_or p u 0 ≡ get_or q u 0) (sym at) here
          | inr other ↦ same t (omega arith)
        ])
      ]
    ]

smaller : (p q : List ℕ) (s : ℕ) → IsDifference p q s → get_or p s 0 < get_or q s 0 → IsSmaller p q
smaller p q s at less = record { first = s; within = at.within; same = at.same; smaller = less }

smaller_total : (p q : List ℕ) → length q ≡ length p → IsSmaller p q ⊎ ((p ≡ q) ⊎ IsSmaller q p)
smaller_total p q lengths =
    elim (difference p q (length p) (omega arith)) [
      | inl same ↦ inr (inl (ext_get_or 0 p q (sym lengths) same))
      | inr found ↦ elim (cases_order (get_or p found.0 0) (get_or q found.0 0)) [
        | inl equal ↦ absurd (found.1.differs equal)
        | inr less ↦ elim less [
          | inl below ↦ inl (smaller p q found.0 found.1 below)
          | inr above ↦ inr (inr (record { first = found.0; within = omega (arith, found.1.within); same = λ t before. sym (found.1.same t before); smaller = above }))
        ]
      ]
    ]

smaller_transitive : (p q r : List ℕ) → length q ≡ length p → IsSmaller p q → IsSmaller q r → IsSmaller p r
smaller_transitive p q r lengths one two =
    elim (cases_order one.first two.first) [
      | inl at ↦ record { first = one.first; within = one.within; same = λ s below. one.same s below ∙ two.same s (omega arith); smaller = omega (arith, one.smaller, subst (λ (s : ℕ). get_or q s 0 < get_or r s 0) (sym at) two.smaller) }
      | inr apart ↦ elim apart [
        | inl below ↦ record { first = one.first; within = one.within; same = λ s before. one.same s before ∙ two.same s (omega arith); smaller = omega (arith, one.smaller, two.same one.first below) }
        | inr above ↦ record { first = two.first; within = omega (arith, one.within); same = λ s before. one.same s (omega arith) ∙ two.same s before; smaller = omega (arith, two.smaller, one.same two.first above) }
      ]
    ]

pub before_irreflexive : (p : List ℕ) → Before p p → ⊥
before_irreflexive p before =
    elim before [
      | inl more ↦ omega arith
      | inr less ↦ omega (arith, less.1.smaller)
    ]

pub before_transitive : (p q r : List ℕ) → length q ≡ length p → Before p q → Before q r → Before p r
before_transitive p q r lengths (inl one) (inl two) = inl (omega arith)
before_transitive p q r lengths (inl one) (inr two) = inl (omega (arith, two.0))
before_transitive p q r lengths (inr one) (inl two) = inl (omega (arith, one.0))
before_transitive p q r lengths (inr one) (inr two) = inr (one.0 ∙ two.0, smaller_transitive p q r lengths one.1 two.1)

pub before_total : (p q : List ℕ) → length q ≡ length p → Before p q ⊎ ((p ≡ q) ⊎ Before q p)
before_total p q lengths =
    elim (cases_order (blocks_of p) (blocks_of q)) [
      | inl equal ↦ elim (smaller_total p q lengths) [
        | inl less ↦ inl (inr (equal, less))
        | inr rest ↦ elim rest [
          | inl same ↦ inr (inl same)
          | inr more ↦ inr (inr (inr (sym equal, more)))
        ]
      ]
      | inr apart ↦ elim apart [
        | inl below ↦ inr (inr (inl below))
        | inr above ↦ inl (inl above)
      ]
    ]

-- the labels at the first difference decide which is smaller
pub smaller_at : (p q : List ℕ) (s : ℕ) → s < length p → ((t : ℕ) → t < s → get_or p t 0 ≡ get_or q t 0) → get_or p s 0 ≢ get_or q s 0 → IsSmaller p q → get_or p s 0 < get_or q s 0
smaller_at p q s within same differs less =
    elim (cases_order s less.first) [
      | inl at ↦ subst (λ (t : ℕ). get_or p t 0 < get_or q t 0) (sym at) less.smaller
      | inr apart ↦ elim apart [
        | inl before ↦ absurd (differs (less.same s before))
        | inr after ↦ absurd (omega (arith, less.smaller, same less.first after))
      ]
    ]

pub smaller_never : (p q : List ℕ) → ((t : ℕ) → t < length p → get_or p t 0 ≡ get_or q t 0) → IsSmaller p q → ⊥
smaller_never p q same less = omega (arith, less.smaller, same less.first less.within)
