-- Members that go together.
use Rattle.std.proofs.Common.{◌≡◌, ℕ, ◌+◌, ◌<◌, List, get_or, sym, ◌∙◌, subst, inl, inr, arith}
use Rattle.std.proofs.lemmas.Bool.{cases_eq}
use Rattle.partition.specs.Laws.Least.{least_of-same}
use Rattle.partition.specs.NestedBlocks.{least_of}
use Rattle.partition.specs.Partition.{Together, Le}
use Rattle.partition.specs.Laws.Chains.{together_turned}
use Rattle.io_pairs.specs.Inner.Families.{FamilyPair, Go, GoBelow, value_at}
use Rattle.partition.specs.Laws.Partners.{Grow}

pub go_turned : (functions : List (List ℕ)) (q : List ℕ) (x y : ℕ) → Go functions q x y → Go functions q y x
go_turned functions q x y go k below = together_turned q _ _ (go k below)

pub go_on : (functions : List (List ℕ)) (q : List ℕ) (x y z : ℕ) → Go functions q x y → Go functions q y z → Go functions q x z
go_on functions q x y z front back k below =
    let one = front k below in
    let two = back k below in
    (one.0, two.1, one.2 ∙ two.2)

pub go_above : (functions : List (List ℕ)) (q r : List ℕ) (x y : ℕ) → Le q r → Go functions q x y → Go functions r x y
go_above functions q r x y above go k below = above _ _ (go k below)

pub family_pairs_grow : (functions : List (List ℕ)) → Grow (FamilyPair functions)
family_pairs_grow functions p q smaller greater below above pair x y held k within = above _ _ (pair x y (below x y held) k within)

-- one function more
pub go_more : (functions : List (List ℕ)) (count : ℕ) (q : List ℕ) (x y : ℕ) → GoBelow functions count q x y → Together q (value_at functions count x) (value_at functions count y) → GoBelow functions (count + 1) q x y
go_more functions count q x y so_far here k within =
    elim (cases_eq k count) [
      | inl at ↦ subst (λ (n : ℕ). Together q (value_at functions n x) (value_at functions n y)) (sym at) here
      | inr other ↦ so_far k (omega arith)
    ]

-- members of one block go together where each goes together with the least one
pub go_by_least : (functions : List (List ℕ)) (p q : List ℕ) (x y : ℕ) → get_or p x 0 ≡ get_or p y 0 → Go functions q (least_of p x) x → Go functions q (least_of p y) y → Go functions q x y
go_by_least functions p q x y same one two =
    go_on functions q x (least_of p x) y (go_turned functions q (least_of p x) x one) (subst (λ (n : ℕ). Go functions q n y) (sym (least_of-same p x y same)) two)
