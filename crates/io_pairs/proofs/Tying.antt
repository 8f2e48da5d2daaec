-- Values that are put together, function by function and member by member, make the least partner.
use Rattle.std.proofs.Common.{◌≡◌, ℕ, ◌+◌, ◌<◌, ◌≤◌, List, length, sym, subst, inl, inr, arith}
use Rattle.std.proofs.lemmas.Bool.{cases_eq}
use Rattle.partition.specs.NestedBlocks.{least_of}
use Rattle.partition.specs.Partition.{IsPartition, Together, Le, zero_of}
use Rattle.partition.specs.Laws.Labels.{IsPartition-of}
use Rattle.partition.specs.Laws.Merging.{merged_above, merged_held, merged_least}
use Rattle.partition.specs.MergedBlocks.{IsMerged}
use Rattle.io_pairs.specs.Inner.Families.{FamilyPair, Go, Ties, TiesBelow, value_at}
use Rattle.partition.specs.Laws.Extremes.{zero_of_below}
use Rattle.partition.specs.Partners.{IsLeastWith}
use Rattle.io_pairs.proofs.Going.{go_above, go_by_least, go_more}
use Rattle.partition.specs.Laws.Least.{least_of-together}

pub ties_none : (functions : List (List ℕ)) (n x y : ℕ) (q : List ℕ) → IsPartition n q → TiesBelow functions 0 x y q q
ties_none functions n x y q lawful = record {
  lawful = IsPartition-of (sym lawful.length) lawful;
  above = λ s t held. held;
  go = λ k within. absurd (omega arith);
  least = λ other above all. above;
}

pub ties_more : (functions : List (List ℕ)) (k x y u v : ℕ) (q r o : List ℕ) → k < length functions → u ≡ value_at functions k x → v ≡ value_at functions k y → u < length r → v < length r
    → TiesBelow functions k x y q r → IsMerged r u v o → TiesBelow functions (k + 1) x y q o
ties_more functions k x y u v q r o within first second in_u in_v so_far is = record {
  lawful = IsPartition-of so_far.lawful.length is.lawful;
  above = λ s t held. merged_above r o u v is s t (so_far.above s t held);
  go = go_more functions k o x y (λ j below. merged_above r o u v is _ _ (so_far.go j below))
      (subst (λ (a : ℕ). Together o a (value_at functions k y)) first (subst (λ (b : ℕ). Together o u b) second (merged_held r o u v in_u in_v is)));
  least = λ other above all.
      merged_least r o other u v is (so_far.least other above all)
      (subst (λ (a : ℕ). Together other a v) (sym first) (subst (λ (b : ℕ). Together other (value_at functions k x) b) (sym second) (all k within)));
}

-- the values of each member below a number are together with those of the first member of its block
pub record IsLeastSoFar (values : ℕ) (functions : List (List ℕ)) (p : List ℕ) (count : ℕ) (q : List ℕ) : Type 0 where
  pub lawful : IsPartition values q
  pub go : (y : ℕ) → y < count → Go functions q (least_of p y) y
  pub least : (other : List ℕ) → IsPartition values other → FamilyPair functions p other → Le q other

pub least_none : (values : ℕ) (functions : List (List ℕ)) (p q : List ℕ) → IsPartition values q → q ≡ zero_of values → IsLeastSoFar values functions p 0 q
least_none values functions p q lawful is = record {
  lawful = lawful;
  go = λ y within. absurd (omega arith);
  least = λ other fits pair. subst (λ (r : List ℕ). Le r other) (sym is) (zero_of_below values other fits);
}

pub least_more : (values : ℕ) (functions : List (List ℕ)) (p : List ℕ) (y : ℕ) (q r : List ℕ) → y < length p → IsLeastSoFar values functions p y q → Ties functions (least_of p y) y q r → IsLeastSoFar values functions p (y + 1) r
least_more values functions p y q r within so_far is = record {
  lawful = IsPartition-of so_far.lawful.length is.lawful;
  go = λ z less. elim (cases_eq z y) [
    | inl at ↦ subst (λ (n : ℕ). Go functions r (least_of p n) n) (sym at) is.go
    | inr other ↦ go_above functions q r (least_of p z) z is.above (so_far.go z (omega arith))
  ];
  least = λ other fits pair. is.least other (so_far.least other fits pair) (pair (least_of p y) y (least_of-together p y within));
}

pub least_all : (members values : ℕ) (functions : List (List ℕ)) (p : List ℕ) (count : ℕ) (q : List ℕ) → length p ≡ members → members ≤ count → IsLeastSoFar values functions p count q
    → IsLeastWith values (FamilyPair functions p) q
least_all members values functions p count q size all so_far = record {
  lawful = so_far.lawful;
  has = λ x y held. go_by_least functions p q x y held.2 (so_far.go x (omega (arith, held.0))) (so_far.go y (omega (arith, held.1)));
  least = so_far.least;
}
