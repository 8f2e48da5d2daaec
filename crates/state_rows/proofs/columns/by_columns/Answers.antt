use Rattle.std.proofs.lemmas.List.Sorted.{Contains-permutation, IsPermutation-sym}
use Rattle.state_rows.proofs.columns.by_columns.Goals as goal

pub returns : goal.returns
returns c k =
    let moved = c.sort_unstable_by_key.ensures.permutation in
    let known = c.in_ok-order.ensures k in (
      λ among. known.0 (Contains-permutation _ _ k (IsPermutation-sym _ _ moved) among),
      λ below. Contains-permutation _ _ k moved (known.1 below),
    )
