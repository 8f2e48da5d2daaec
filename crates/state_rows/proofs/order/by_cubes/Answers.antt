use Rattle.std.proofs.Common.{ℕ, List, Contains, sym, subst}
use Rattle.std.proofs.lemmas.List.Sorted.{Contains-permutation, IsPermutation-sym}
use Rattle.state_rows.proofs.order.by_cubes.Goals as goal

pub returns : goal.returns
returns c i =
    let copied = c.in_ok-ordered.ensures.items_if_clones_equal (λ x y is. is) in
    let moved = c.sort_unstable_by_key.ensures.permutation in (
      λ among. subst (λ (list : List ℕ). Contains list i) copied (Contains-permutation _ _ i (IsPermutation-sym _ _ moved) among),
      λ among. Contains-permutation _ _ i moved (subst (λ (list : List ℕ). Contains list i) (sym copied) among),
    )
