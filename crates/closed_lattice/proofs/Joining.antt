-- Partitions that grow by joins with least closed partitions that are known.
use Rattle.std.proofs.Common.{◌≡◌, ℕ, ◌<◌, All, List, [], ◌∷◌, ◌++◌, get_or, length, refl, sym, ◌∙◌, subst}
use Rattle.std.proofs.lemmas.List.Elements.{All-push, Contains-get_or}
use Rattle.kiss_file.specs.declared.file.KissFile.{KissFile}
use Rattle.partition.specs.Partition.{IsPartition, Together}
use Rattle.partition.specs.MeetAndJoin.{IsJoin, IsLeastAbove}
use Rattle.partition.specs.Laws.Chains.{join_is_least, together_turned}
use Rattle.partition.specs.Laws.World.{join_fits, join_repeats}
use Rattle.pair_operators.specs.Laws.Pairs.{joins_pair, pair_monotone}
use Rattle.closed_lattice.specs.ClosedPartitions.{IsPrincipal}
use Rattle.closed_lattice.specs.declared.known_principals.Item.{Item}
use Rattle.closed_lattice.specs.Inner.Joins.{Joins}
use Rattle.closed_lattice.specs.KnownPrincipals.{IsPrincipalItem}
use Rattle.closed_lattice.specs.Inner.WaitingPairs.{AreStates, AreTogether}
use Rattle.closed_lattice.proofs.Growing.{IsGrowing}

-- the two states may change places
pub principal_turned : (F : KissFile) (s t : ℕ) (p : List ℕ) → IsPrincipal F s t p → IsPrincipal F t s p
principal_turned F s t p is = record {
  lawful = is.lawful;
  closed = is.closed;
  together = together_turned p s t is.together;
  least = λ other closed held. is.least other closed (together_turned other t s held);
}

pub joins_none : (F : KissFile) (Holds : List ℕ → Type 0) (p : List ℕ) → IsPartition (length F.states) p → Joins F Holds p p
joins_none F Holds p lawful = record {
  lawful = lawful;
  above = λ s t held. held;
  below = λ q closed le holds. le;
  pairs = λ q q_lawful le pair. pair;
}

-- one join after others
pub joins_more : (F : KissFile) (Holds More : List ℕ → Type 0) (p q r : List ℕ) → ((x : List ℕ) → Holds x → More x) → Joins F Holds p q → Joins F More q r → Joins F Holds p r
joins_more F Holds More p q r from so_far on = record {
  lawful = on.lawful;
  above = λ s t held. on.above s t (so_far.above s t held);
  below = λ x closed le holds. on.below x closed (so_far.below x closed le holds) (from x holds);
  pairs = λ x lawful le pair. on.pairs x lawful le (so_far.pairs x lawful (λ s t held. le s t (on.above s t held)) pair);
}

-- a join with the least closed partition of two states
pub joins_principal : (F : KissFile) (u v : ℕ) (p g r : List ℕ) → IsPartition (length F.states) p → IsPrincipal F u v g → IsJoin p g r → Joins F (λ q. Together q u v) p r
joins_principal F u v p g r lawful is joined = record {
  lawful = join_fits (length F.states) p g r lawful joined;
  above = least.left;
  below = λ q closed le held. least.least q (subst (λ (n : ℕ). IsPartition n q) (sym lawful.length) closed.0) le (is.least q closed held);
  pairs = λ q q_lawful le pair.
      joins_pair F p q g q r q size refl pair
      (pair_monotone F g g g q (λ s t held. held) (λ s t held. le s t (least.right s t held)) is.closed)
      joined (join_repeats (length F.states) q q_lawful);
}
  where
    size : length g ≡ length p
    size = is.lawful.length ∙ sym lawful.length

    least : IsLeastAbove p g r
    least = join_is_least p g r size joined

-- what is known while a least closed partition is made stays known
pub growing_joined : (F : KissFile) (s t : ℕ) (p r : List ℕ) (waiting : List (ℕ × ℕ)) → IsGrowing F s t p waiting → Joins F (λ q. AreTogether q waiting) p r → IsGrowing F s t r waiting
growing_joined F s t p r waiting so_far joins = record {
  lawful = joins.lawful;
  states = so_far.states;
  below = λ q closed held. let under = so_far.below q closed held in (joins.below q closed under.0 under.1, under.1);
  closing = λ q lawful le together.
      let before = so_far.closing q lawful (λ u v held. le u v (joins.above u v held)) together in
      (joins.pairs q lawful le before.0, before.1);
}

-- joins are joins under a condition that asks more
pub joins_weaker : (F : KissFile) (Holds More : List ℕ → Type 0) (p r : List ℕ) → ((x : List ℕ) → Holds x → More x) → Joins F More p r → Joins F Holds p r
joins_weaker F Holds More p r from joins = record {
  lawful = joins.lawful;
  above = joins.above;
  below = λ q closed le holds. joins.below q closed le (from q holds);
  pairs = joins.pairs;
}

-- one more is known
pub known_more : (F : KissFile) (items : List Item) (item : Item) → All (IsPrincipalItem F) items → IsPrincipalItem F item → All (IsPrincipalItem F) (items ++ item ∷ [])
known_more F items item known is = All-push (IsPrincipalItem F) items item known is

-- the pair at a place of the list
pub states_at : (n : ℕ) (pairs : List (ℕ × ℕ)) (k : ℕ) → AreStates n pairs → k < length pairs → ((get_or pairs k (0, 0)).0 < n) × ((get_or pairs k (0, 0)).1 < n)
states_at n pairs k states within =
    let pair : ℕ × ℕ = get_or pairs k (0, 0) in
    states (pair.0) (pair.1) (Contains-get_or pairs k (0, 0) within)

pub together_at : (q : List ℕ) (pairs : List (ℕ × ℕ)) (k : ℕ) → AreTogether q pairs → k < length pairs → Together q (get_or pairs k (0, 0)).0 (get_or pairs k (0, 0)).1
together_at q pairs k together within =
    let pair : ℕ × ℕ = get_or pairs k (0, 0) in
    together (pair.0) (pair.1) (Contains-get_or pairs k (0, 0) within)
