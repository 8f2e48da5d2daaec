-- A listing of the joins of the right sides of two states is one of the right sides of Mm pairs, and with M of each it is
-- one of the Mm pairs.
use Rattle.std.proofs.Common.{◌≡◌, ℕ, ◌<◌, All, AllPairs, List, [], ◌∷◌, ◌++◌, get_or, length, map, sym, ap, ◌∙◌, subst, arith}
use Rattle.std.proofs.lemmas.List.{get_or-map, length-map, map-id, map_push}
use Rattle.std.proofs.lemmas.List.Elements.{All-push}
use Rattle.hs_lattice.specs.JoinWorld.{IsGenerated, HaveJoins}
use Rattle.hs_lattice.specs.Laws.{IsGenerated-has}
use Rattle.hs_lattice.specs.Listing.{Lists, Evidence}
use Rattle.hs_lattice.specs.Laws.Outcomes.{evidence_as}
use Rattle.kiss_file.specs.declared.file.KissFile.{KissFile}
use Rattle.partition.specs.Order.{Before}
use Rattle.partition.specs.MeetAndJoin.{IsJoin}
use Rattle.partition.specs.Partition.{IsPartition, IsStateCount, zero_of}
use Rattle.pair_operators.specs.Extremes.{IsHigh}
use Rattle.mm_lattice.specs.declared.worlds.MmPair.{MmPair}
use Rattle.mm_lattice.specs.Inner.RightSides.{AreRights, HaveLefts, HaveRights, IsReached, ListsRights}
use Rattle.mm_lattice.specs.Laws.{same_right}
use Rattle.mm_lattice.specs.MmPairs.{IsMmPair}
use Rattle.partition.specs.Laws.Generating.{HaveJoinsOf, IsJoinOfSome}
use Rattle.partition.specs.Sides.{RightBefore, Sides}
use Rattle.mm_lattice.specs.Sides.{sides_of}
use Rattle.mm_lattice.specs.Top.{IsRightSide}
use Rattle.mm_lattice.proofs.Generating.{right_generated}
use Rattle.mm_lattice.proofs.Reached.{reached_join, reached_pair, reached_two, reached_zero}

-- each right side of two states is a partition of the states
pub rights_fit : (F : KissFile) (found : List (List ℕ)) → AreRights F found → All (IsPartition (length F.states)) found
rights_fit F found rights k d within = (rights k d within).2.low.lawful

-- each right side of two states is reached
pub are_reached : (F : KissFile) (found : List (List ℕ)) → AreRights F found → All (IsReached F) found
are_reached F found rights k d within = let two = rights k d within in reached_two F two.0 two.1 (get_or found k d) two.2

module _ (F : KissFile) (n : ℕ) (size : n ≡ length F.states) (count : IsStateCount n) (found : List (List ℕ)) (rights : AreRights F found) where
  all_count : IsStateCount (length F.states)
  all_count = subst IsStateCount size count

  to : (q : List ℕ) → IsJoinOfSome n found q → IsReached F q
  to q made =
      let here = subst (λ (k : ℕ). IsJoinOfSome k found q) size made in
      let plain = subst (λ (gs : List (List ℕ)). IsGenerated (λ r. r ≡ zero_of (length F.states)) IsJoin gs q) (map-id found) here in
      IsGenerated-has (λ r. r ≡ zero_of (length F.states)) IsJoin (IsReached F) found q
      (λ r is. subst (IsReached F) (sym is) (reached_zero F all_count))
      (λ a b c one two joined. reached_join F a b c one two joined)
      (are_reached F found rights)
      plain

  from : HaveRights F (length F.states) found → HaveJoinsOf n found → (q : List ℕ) → IsRightSide F q → IsJoinOfSome n found q
  from have joins q is =
      let plain = subst (λ (gs : List (List ℕ)). HaveJoins (λ r. r ≡ zero_of (length F.states)) IsJoin gs) (map-id found) (subst (λ (k : ℕ). HaveJoinsOf k found) size joins) in
      let made = right_generated F found have plain q is in
      subst (λ (k : ℕ). IsJoinOfSome k found q) (sym size) (subst (λ (gs : List (List ℕ)). IsGenerated (λ r. r ≡ zero_of (length F.states)) IsJoin gs q) (sym (map-id found)) made)

  pub listed : HaveRights F (length F.states) found → (items : List (List ℕ)) → Lists Before (IsJoinOfSome n found) (map (λ q. q) items) → HaveJoinsOf n found → ListsRights F items
  listed have items lists joins =
      let plain = subst (λ (xs : List (List ℕ)). Lists Before (IsJoinOfSome n found) xs) (map-id items) lists in
      record {
        ascending = plain.ascending;
        reached = λ k d within. to (get_or items k d) (plain.members k d within);
        complete = λ q is. plain.complete q (from have joins q is);
      }

  pub evident : (limit : ℕ) (items : List (List ℕ)) → Evidence Before (IsJoinOfSome n found) limit (map (λ q. q) items) → Evidence Before (IsReached F) limit items
  evident limit items evidence =
      subst (λ (xs : List (List ℕ)). Evidence Before (IsReached F) limit xs) (map-id items)
      (evidence_as Before (IsJoinOfSome n found) (IsReached F) limit (map (λ q. q) items) to evidence)

  pub unevident : HaveRights F (length F.states) found → (limit : ℕ) → ((values : List (List ℕ)) → Evidence Before (IsJoinOfSome n found) limit values → ⊥) → HaveJoinsOf n found → (values : List (List ℕ)) → Evidence Before (IsRightSide F) limit values → ⊥
  unevident have limit none joins values evidence = none values (evidence_as Before (IsRightSide F) (IsJoinOfSome n found) limit values (from have joins) evidence)

-- M is put beside one more partition
pub lefts_more : (F : KissFile) (rights : List (List ℕ)) (items : List MmPair) (right : List ℕ) (pair : MmPair) → HaveLefts F rights (map sides_of items) → pair.right ≡ right → IsHigh F right pair.left → HaveLefts F (rights ++ right ∷ []) (map sides_of (items ++ pair ∷ []))
lefts_more F rights items right pair so_far same high =
    rw (map_push sides_of items pair) (record {
      same = map_push (λ (x : Sides). x.1) (map sides_of items) (sides_of pair) ∙ ap (λ (q : List ℕ). map (λ (x : Sides). x.1) (map sides_of items) ++ q ∷ []) same ∙ ap (λ (qs : List (List ℕ)). qs ++ right ∷ []) so_far.same;
      high = All-push (λ (x : Sides). IsHigh F x.1 x.0) (map sides_of items) (sides_of pair) so_far.high (subst (λ (q : List ℕ). IsHigh F q pair.left) (sym same) high);
    })

-- Between the two worlds: partitions, each of which M of it is put beside.
module _ (F : KissFile) (rights : List (List ℕ)) (values : List Sides) (have : HaveLefts F rights values) where
  long : length values ≡ length rights
  long = sym (length-map values (λ (x : Sides). x.1)) ∙ ap length have.same

  -- the right side at a place
  right_at : (k : ℕ) (d : Sides) (e : List ℕ) → k < length values → get_or rights k e ≡ (get_or values k d).1
  right_at k d e within =
      sym (ap (λ (xs : List (List ℕ)). get_or xs k e) have.same) ∙ get_or-map (λ (x : Sides). x.1) values k d e within

  ascend : AllPairs Before rights → AllPairs RightBefore values
  ascend ascending i j d order within =
      let in_i : i < length values = omega arith in
      subst (λ (q : List ℕ). Before q (get_or values j d).1) (right_at i d d.1 in_i)
      (subst (λ (q : List ℕ). Before (get_or rights i d.1) q) (right_at j d d.1 within) (ascending i j d.1 order (omega (arith, long))))

  pairs : All (IsReached F) rights → All (IsMmPair F) values
  pairs reached k d within =
      reached_pair F (get_or values k d).1 (get_or values k d).0
      (subst (IsReached F) (right_at k d d.1 within) (reached k d.1 (omega (arith, long)))) (have.high k d within)

  pub paired : ListsRights F rights → Lists RightBefore (IsMmPair F) values
  paired lists = record {
    ascending = ascend lists.ascending;
    members = pairs lists.reached;
    complete = λ z is.
        let at = lists.complete z.1 (z.0, is) in
        let k = at.0 in
        let within : k < length values = omega (arith, at.1, long) in
        let same : (get_or values k z).1 ≡ z.1 = sym (right_at k z z.1 within) ∙ at.2 in
        (k, within, same_right F (get_or values k z) z (have.high k z within) is.high same);
  }

  pub paired_evidence : (limit : ℕ) → Evidence Before (IsReached F) limit rights → Evidence RightBefore (IsMmPair F) limit values
  paired_evidence limit evidence = record {
    ascending = ascend evidence.ascending;
    members = pairs evidence.members;
    more = long ∙ evidence.more;
  }

-- the right sides of more Mm pairs than the limit
pub right_evidence : (F : KissFile) (limit : ℕ) (values : List Sides) → Evidence RightBefore (IsMmPair F) limit values → Evidence Before (IsRightSide F) limit (map (λ (x : Sides). x.1) values)
right_evidence F limit values evidence = record {
  ascending = λ i j d order within.
      let e : Sides = (d, d) in
      let inside : j < length values = omega (arith, length-map values right) in
      let before : i < length values = omega (arith, inside) in
      subst (λ (q : List ℕ). Before q (get_or (map right values) j d)) (sym (get_or-map right values i e d before))
      (subst (λ (q : List ℕ). Before (get_or values i e).1 q) (sym (get_or-map right values j e d inside)) (evidence.ascending i j e order inside));
  members = λ k d within.
      let e : Sides = (d, d) in
      let inside : k < length values = omega (arith, length-map values right) in
      subst (IsRightSide F) (sym (get_or-map right values k e d inside)) ((get_or values k e).0, evidence.members k e inside);
  more = length-map values right ∙ evidence.more;
}
  where
    right : Sides → List ℕ
    right x = x.1
