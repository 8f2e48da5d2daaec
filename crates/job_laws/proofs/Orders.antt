-- No two partitions come before each other.
use Rattle.std.proofs.Common.{◌≡◌, ℕ, ◌<◌, ◌⊎◌, inl, inr, List, get_or, sym, subst, arith}
use Rattle.std.proofs.lemmas.Bool.{cases_order}
use Rattle.partition.specs.Order.{Before, IsSmaller}
use Rattle.partition.specs.Sides.{RightBefore, Sides}

smaller_apart : (p q : List ℕ) → IsSmaller p q → IsSmaller q p → ⊥
smaller_apart p q one two =
    elim (cases_order one.first two.first) [
      | inl at ↦
          let here : get_or q one.first 0 < get_or p one.first 0 = subst (λ (s : ℕ). get_or q s 0 < get_or p s 0) (sym at) two.smaller in
          omega (arith, one.smaller, here)
      | inr (inl below) ↦ omega (arith, one.smaller, two.same one.first below)
      | inr (inr above) ↦ omega (arith, two.smaller, one.same two.first above)
    ]

pub before_apart : (p q : List ℕ) → Before p q → Before q p → ⊥
before_apart p q (inl more) (inl fewer) = omega (arith, more, fewer)
before_apart p q (inl more) (inr also) = omega (arith, more, also.0)
before_apart p q (inr as_many) (inl fewer) = omega (arith, as_many.0, fewer)
before_apart p q (inr as_many) (inr also) = smaller_apart p q as_many.1 also.1

pub right_before_apart : (x y : Sides) → RightBefore x y → RightBefore y x → ⊥
right_before_apart x y one two = before_apart x.1 y.1 one two
