-- Halving an ascending list towards the place of an item.
use Rattle.std.proofs.Common.{◌≡◌, ℕ, ◌+◌, ◌<◌, ◌≤◌, ◌⊎◌, inl, inr, List, length, get_or, All, AllPairs, subst, arith}
use Rattle.std.proofs.lemmas.Bool.{cases_lt}
use Rattle.std.proofs.Math.Nat.{eq-or-lt_of_le}
use Rattle.hs_lattice.specs.Places.{IsInsertionPlace}

-- an order of the elements with Q, where S says that two are one value
pub record Order {X : Type 0} (Q : X → Type 0) (S R : X → X → Type 0) : Type 0 where
  pub transitive : (x y z : X) → Q x → Q y → Q z → R x y → R y z → R x z
  pub total : (x y : X) → Q x → Q y → R x y ⊎ (S x y ⊎ R y x)

-- what stands below low comes before the item, and nothing from high on does
pub record IsNarrowed {X : Type 0} (R : X → X → Type 0) (xs : List X) (item : X) (low high : ℕ) : Type 0 where
  pub ordered : low ≤ high
  pub within : high ≤ length xs
  pub below : (k : ℕ) (d : X) → k < low → R (get_or xs k d) item
  pub above : (k : ℕ) (d : X) → high ≤ k → k < length xs → R (get_or xs k d) item → ⊥

-- the element at the middle comes before the item: so does what stands below it
pub narrowed_above :
    {X : Type 0} (Q : X → Type 0) (S R : X → X → Type 0) (xs : List X) (item : X) (low high middle : ℕ) →
    Order Q S R → All Q xs → Q item → AllPairs R xs → IsNarrowed R xs item low high → low ≤ middle → middle < high →
    ((d : X) → R (get_or xs middle d) item) → IsNarrowed R xs item (middle + 1) high
narrowed_above {X} Q S R xs item low high middle order fit fits ascending n from to before =
    let inside : middle < length xs = omega (arith, n.within) in
    let steps : (k : ℕ) (d : X) → k < middle + 1 → R (get_or xs k d) item =
    λ k d below.
    elim (cases_lt k middle) [
      | inl lt ↦ order.transitive (get_or xs k d) (get_or xs middle d) item (fit k d (omega arith)) (fit middle d inside) fits (ascending k middle d lt inside) (before d)
      | inr ge ↦
          let same : middle ≡ k = omega arith in
          let P : ℕ → Type 0 = λ i. R (get_or xs i d) item in
          subst P same (before d)
    ] in
    record { ordered = omega arith; within = n.within; below = steps; above = n.above }

-- the element at the middle does not come before the item: nor does what stands above it
pub narrowed_below :
    {X : Type 0} (Q : X → Type 0) (S R : X → X → Type 0) (xs : List X) (item : X) (low high middle : ℕ) →
    Order Q S R → All Q xs → Q item → AllPairs R xs → IsNarrowed R xs item low high → low ≤ middle → middle < high →
    ((d : X) → R (get_or xs middle d) item → ⊥) → IsNarrowed R xs item low middle
narrowed_below {X} Q S R xs item low high middle order fit fits ascending n from to not_before =
    let inside : middle < length xs = omega (arith, n.within) in
    let steps : (k : ℕ) (d : X) → middle ≤ k → k < length xs → R (get_or xs k d) item → ⊥ =
    λ k d le lt before.
    elim (eq-or-lt_of_le le) [
      | inl same ↦
          let P : ℕ → Type 0 = λ i. R (get_or xs i d) item → ⊥ in
          subst P same (not_before d) before
      | inr above ↦ not_before d (order.transitive (get_or xs middle d) (get_or xs k d) item (fit middle d inside) (fit k d lt) fits (ascending middle k d above lt) before)
    ] in
    record { ordered = from; within = omega (arith, n.within); below = n.below; above = steps }

-- where the two ends meet and the element there is no other item of the value, the item belongs there
pub place_at :
    {X : Type 0} (Q : X → Type 0) (S R : X → X → Type 0) (xs : List X) (item : X) (low high : ℕ) →
    Order Q S R → All Q xs → Q item → AllPairs R xs → IsNarrowed R xs item low high → high ≤ low →
    ((d : X) → low < length xs → S (get_or xs low d) item → ⊥) → IsInsertionPlace R xs item low
place_at {X} Q S R xs item low high order fit fits ascending n met other =
    let here : (d : X) → low < length xs → R item (get_or xs low d) =
    λ d lt.
    elim (order.total (get_or xs low d) item (fit low d lt) fits) [
      | inl before ↦ absurd (n.above low d met lt before)
      | inr rest ↦ elim rest [ inl same ↦ absurd (other d lt same) | inr after ↦ after ]
    ] in
    let steps : (k : ℕ) (d : X) → low ≤ k → k < length xs → R item (get_or xs k d) =
    λ k d le lt.
    elim (eq-or-lt_of_le le) [
      | inl same ↦
          let P : ℕ → Type 0 = λ i. R item (get_or xs i d) in
          subst P same (here d (omega arith))
      | inr above ↦
          let inside : low < length xs = omega arith in
          order.transitive item (get_or xs low d) (get_or xs k d) fits (fit low d inside) (fit k d lt) (here d inside) (ascending low k d above lt)
    ] in
    record { within = omega (arith, n.ordered, n.within); below = n.below; above = steps }
