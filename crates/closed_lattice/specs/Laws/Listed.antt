-- A listing of the joins of generators is one of the partitions that are such joins.
use Rattle.std.proofs.Common.{◌≡◌, ℕ, List, length, map, sym, subst}
use Rattle.std.proofs.lemmas.List.{map-id}
use Rattle.hs_lattice.specs.JoinWorld.{HaveJoins}
use Rattle.hs_lattice.specs.Listing.{Lists, Evidence}
use Rattle.hs_lattice.specs.Laws.Outcomes.{evidence_as, lists_as}
use Rattle.kiss_file.specs.declared.file.KissFile.{KissFile}
use Rattle.partition.specs.MeetAndJoin.{IsJoin}
use Rattle.partition.specs.Order.{Before}
use Rattle.partition.specs.Laws.Generating.{HaveJoinsOf, IsJoinOfSome, IsZeroOf}
use Rattle.closed_lattice.specs.Laws.Generating.{IsMade}

module _ (F : KissFile) (n : ℕ) (size : n ≡ length F.states) (generators : List (List ℕ)) (Has : List ℕ → Type 0)
    (have : (p : List ℕ) → IsMade F generators p → Has p) where
  to : (p : List ℕ) → IsJoinOfSome n generators p → Has p
  to p of = have p (subst (λ (gs : List (List ℕ)). IsMade F gs p) (map-id generators) (subst (λ (k : ℕ). IsJoinOfSome k generators p) size of))

  pub evident : (limit : ℕ) (items : List (List ℕ)) → Evidence Before (IsJoinOfSome n generators) limit (map (λ q. q) items) → Evidence Before Has limit items
  evident limit items evidence =
      subst (λ (xs : List (List ℕ)). Evidence Before Has limit xs) (map-id items)
      (evidence_as Before (IsJoinOfSome n generators) Has limit (map (λ q. q) items) to evidence)

  module _ (are_made : HaveJoins (IsZeroOf (length F.states)) IsJoin generators → (p : List ℕ) → Has p → IsMade F generators p) where
    from : HaveJoinsOf n generators → (p : List ℕ) → Has p → IsJoinOfSome n generators p
    from joins p is =
        let moved = subst (λ (gs : List (List ℕ)). HaveJoins (IsZeroOf (length F.states)) IsJoin gs) (map-id generators) (subst (λ (k : ℕ). HaveJoinsOf k generators) size joins) in
        subst (λ (k : ℕ). IsJoinOfSome k generators p) (sym size) (subst (λ (gs : List (List ℕ)). IsMade F gs p) (sym (map-id generators)) (are_made moved p is))

    pub listed : (items : List (List ℕ)) → Lists Before (IsJoinOfSome n generators) (map (λ q. q) items) → HaveJoinsOf n generators → Lists Before Has items
    listed items lists joins =
        subst (λ (xs : List (List ℕ)). Lists Before Has xs) (map-id items)
        (lists_as Before (IsJoinOfSome n generators) Has (map (λ q. q) items) to (from joins) lists)

    pub unevident : (limit : ℕ) → ((values : List (List ℕ)) → Evidence Before (IsJoinOfSome n generators) limit values → ⊥) → HaveJoinsOf n generators → (values : List (List ℕ)) → Evidence Before Has limit values → ⊥
    unevident limit none joins values evidence = none values (evidence_as Before Has (IsJoinOfSome n generators) limit values (from joins) evidence)
