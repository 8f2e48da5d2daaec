use Rattle.std.proofs.Common.{◌≡◌, ◌++◌, ◌∷◌, [], refl, arith}
use Rattle.std.proofs.lemmas.List.{length_push}
use Rattle.list_facts.specs.Laws.Places.{each_pushed}
use Rattle.partition.proofs.bounds.own_numbers.Goals as goal

pub loop-k-preserved : goal.loop-k-preserved
loop-k-preserved c = rw c.in_ok-push.ensures.items (record {
  size = omega (arith, length_push c.loop-k.numbers.items c.loop-k.k, c.loop-k.invariant.size);
  own = each_pushed c.loop-k.numbers.items (c.loop-k.numbers.items ++ c.loop-k.k ∷ []) c.loop-k.k 0 c.loop-k.k (λ k n. n ≡ k) c.loop-k.invariant.size refl c.loop-k.invariant.own refl;
})
