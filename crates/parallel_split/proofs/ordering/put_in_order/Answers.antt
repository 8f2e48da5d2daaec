use Rattle.std.proofs.Common.{[], ◌∷◌, ◌++◌}
use Rattle.std.specs.List.{insert}
use Rattle.std.proofs.lemmas.List.Sorted.{IsPermutation-insert, IsPermutation-to_front, IsPermutation-trans}
use Rattle.hs_lattice.specs.Laws.Insert.{AllPairs-insert}
use Rattle.hs_lattice.specs.Places.{IsInsertionPlace}
use Rattle.partition.specs.Order.{Before}
use Rattle.parallel_split.proofs.ordering.put_in_order.Goals as goal

pub returns : goal.returns
returns c =
    let old = c.args.found.now.items in
    let at : IsInsertionPlace Before old c.args.p c.place_for-place.result = rw c.as_slice.ensures.value at c.place_for-place.ensures in
    rw c.in_ok-insert.ensures.items (record {
      permutes = IsPermutation-trans (old ++ c.args.p ∷ []) (c.args.p ∷ old) (insert old c.place_for-place.result c.args.p) (IsPermutation-to_front old c.args.p) (IsPermutation-insert old c.place_for-place.result c.args.p);
      ascending = AllPairs-insert Before old c.place_for-place.result c.args.p c.requires.ascending at;
    })
