-- From a family to a relation in a machine's own words: partners, Mm pairs and lists of them are the same.
use Rattle.std.proofs.Common.{◌≡◌, ℕ, List, Result, IfOk, get_or, length, map, sym, subst, arith}
use Rattle.hs_lattice.specs.declared.Listing.{Listing}
use Rattle.std.proofs.lemmas.Result.{IfOk-weaker}
use Rattle.std.specs.declared.alloc.AllocError.{AllocError}
use Rattle.hs_lattice.specs.Listing.{Lists, Evidence, IfMore, IfWhole}
use Rattle.hs_lattice.specs.Laws.Outcomes.{more-from, whole-from}
use Rattle.partition.specs.Partition.{Together}
use Rattle.io_pairs.specs.Inner.RightSides.{IsFamilyMm}
use Rattle.io_pairs.specs.Inner.Families.{FamilyPair, Go, IsParted, SameGoing}
use Rattle.partition.specs.Partners.{IsGreatestWith, IsLeastWith, IsMmPairOf, PairBy}
use Rattle.partition.specs.Sides.{RightBefore, Sides}
use Rattle.io_pairs.specs.Sides.{sides_of}
use Rattle.io_pairs.specs.declared.worlds.IoPair.{IoPair}
use Rattle.io_pairs.proofs.Parting.{parted_greatest}

module _ (members values : ℕ) (functions : List (List ℕ)) (Going : List ℕ → ℕ → ℕ → Type 0) (same : SameGoing members (Go functions) Going) where
  to_pair : (p q : List ℕ) → length p ≡ members → FamilyPair functions p q → PairBy Going p q
  to_pair p q size pair x y held = (same q x y (omega (arith, held.0)) (omega (arith, held.1))).0 (pair x y held)

  from_pair : (p q : List ℕ) → length p ≡ members → PairBy Going p q → FamilyPair functions p q
  from_pair p q size pair x y held = (same q x y (omega (arith, held.0)) (omega (arith, held.1))).1 (pair x y held)

  pub least_as : (p q : List ℕ) → length p ≡ members → IsLeastWith values (FamilyPair functions p) q → IsLeastWith values (PairBy Going p) q
  least_as p q size is = record {
    lawful = is.lawful;
    has = to_pair p q size is.has;
    least = λ other lawful pair. is.least other lawful (from_pair p other size pair);
  }

  least_from : (p q : List ℕ) → length p ≡ members → IsLeastWith values (PairBy Going p) q → IsLeastWith values (FamilyPair functions p) q
  least_from p q size is = record {
    lawful = is.lawful;
    has = from_pair p q size is.has;
    least = λ other lawful pair. is.least other lawful (to_pair p other size pair);
  }

  greatest_to : (q p : List ℕ) → IsGreatestWith members (λ l. FamilyPair functions l q) p → IsGreatestWith members (λ l. PairBy Going l q) p
  greatest_to q p is = record {
    lawful = is.lawful;
    has = to_pair p q is.lawful.length is.has;
    greatest = λ other lawful pair. is.greatest other lawful (from_pair other q lawful.length pair);
  }

  greatest_from : (q p : List ℕ) → IsGreatestWith members (λ l. PairBy Going l q) p → IsGreatestWith members (λ l. FamilyPair functions l q) p
  greatest_from q p is = record {
    lawful = is.lawful;
    has = from_pair p q is.lawful.length is.has;
    greatest = λ other lawful pair. is.greatest other lawful (to_pair other q lawful.length pair);
  }

  pub greatest_as : (q p : List ℕ) → IsParted members functions q p → IsGreatestWith members (λ l. PairBy Going l q) p
  greatest_as q p is = greatest_to q p (parted_greatest members functions q p is)

  mm_as : (x : Sides) → IsFamilyMm members values functions x → IsMmPairOf members values (PairBy Going) x
  mm_as (p, q) is = record { low = least_as p q is.high.lawful.length is.low; high = greatest_to q p is.high }

  mm_from : (x : Sides) → IsMmPairOf members values (PairBy Going) x → IsFamilyMm members values functions x
  mm_from (p, q) is = record { low = least_from p q is.high.lawful.length is.low; high = greatest_from q p is.high }

  pub lists_as : (xs : List Sides) → Lists RightBefore (IsFamilyMm members values functions) xs → Lists RightBefore (IsMmPairOf members values (PairBy Going)) xs
  lists_as xs lists = record {
    ascending = lists.ascending;
    members = λ k d within. mm_as (get_or xs k d) (lists.members k d within);
    complete = λ z is. lists.complete z (mm_from z is);
  }

  -- the same of what is answered, where the family has these numbers of members and values
  module _ (own_members own_values : ℕ) (first : own_members ≡ members) (second : own_values ≡ values) where
    mm_here : (x : Sides) → IsFamilyMm own_members own_values functions x → IsFamilyMm members values functions x
    mm_here x is = subst (λ (n : ℕ). IsFamilyMm members n functions x) second (subst (λ (n : ℕ). IsFamilyMm n own_values functions x) first is)

    mm_there : (x : Sides) → IsFamilyMm members values functions x → IsFamilyMm own_members own_values functions x
    mm_there x is = subst (λ (n : ℕ). IsFamilyMm n own_values functions x) (sym first) (subst (λ (n : ℕ). IsFamilyMm members n functions x) (sym second) is)

    pub low_answer : (r : Result (List ℕ) AllocError) (p : List ℕ) → length p ≡ members → IfOk r (IsLeastWith own_values (FamilyPair functions p)) → IfOk r (IsLeastWith values (PairBy Going p))
    low_answer r p size is = IfOk-weaker r _ _ (λ q low. least_as p q size (subst (λ (n : ℕ). IsLeastWith n (FamilyPair functions p) q) second low)) is

    pub high_answer : (r : Result (List ℕ) AllocError) (q : List ℕ) → IfOk r (IsParted own_members functions q) → IfOk r (IsGreatestWith members (λ l. PairBy Going l q))
    high_answer r q is = IfOk-weaker r _ _ (λ p high. greatest_as q p (subst (λ (n : ℕ). IsParted n functions q p) first high)) is

    pub whole_answer : (r : Result (Listing IoPair) AllocError) → IfOk r (λ listing. IfWhole listing (λ items. Lists RightBefore (IsFamilyMm own_members own_values functions) (map sides_of items)))
        → IfOk r (λ listing. IfWhole listing (λ items. Lists RightBefore (IsMmPairOf members values (PairBy Going)) (map sides_of items)))
    whole_answer r is = whole-from r _ _ (λ items lists. lists_as (map sides_of items) (record {
      ascending = lists.ascending;
      members = λ k d within. mm_here (get_or (map sides_of items) k d) (lists.members k d within);
      complete = λ z mm. lists.complete z (mm_there z mm);
    })) is

    pub none_answer : (limit : ℕ) (r : Result (Listing IoPair) AllocError) → IfOk r (λ listing. IfWhole listing (λ _. (pairs : List Sides) → Evidence RightBefore (IsFamilyMm own_members own_values functions) limit pairs → ⊥))
        → IfOk r (λ listing. IfWhole listing (λ _. (pairs : List Sides) → Evidence RightBefore (IsMmPairOf members values (PairBy Going)) limit pairs → ⊥))
    none_answer limit r is = whole-from r _ _ (λ items none pairs evidence. none pairs (record {
      ascending = evidence.ascending;
      members = λ k d within. mm_there (get_or pairs k d) (mm_from (get_or pairs k d) (evidence.members k d within));
      more = evidence.more;
    })) is

    pub more_answer : (limit : ℕ) (r : Result (Listing IoPair) AllocError) → IfOk r (λ listing. IfMore listing (λ items. Evidence RightBefore (IsFamilyMm own_members own_values functions) limit (map sides_of items)))
        → IfOk r (λ listing. IfMore listing (λ items. Evidence RightBefore (IsMmPairOf members values (PairBy Going)) limit (map sides_of items)))
    more_answer limit r is = more-from r _ _ (λ items evidence. record {
      ascending = evidence.ascending;
      members = λ k d within. mm_as (get_or (map sides_of items) k d) (mm_here (get_or (map sides_of items) k d) (evidence.members k d within));
      more = evidence.more;
    }) is
