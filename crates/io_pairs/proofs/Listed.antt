-- A listing of the joins of the right sides of two members is one of the right sides of Mm pairs, and with the greatest
-- partner of each it is one of the Mm pairs.
use Rattle.std.proofs.Common.{◌≡◌, ℕ, ◌<◌, All, AllPairs, List, [], ◌∷◌, ◌++◌, get_or, length, map, sym, ap, ◌∙◌, subst, arith}
use Rattle.std.proofs.lemmas.List.{get_or-map, length-map, map-id, map_push}
use Rattle.std.proofs.lemmas.List.Elements.{All-push}
use Rattle.hs_lattice.specs.JoinWorld.{IsGenerated, HaveJoins}
use Rattle.hs_lattice.specs.Laws.{IsGenerated-has}
use Rattle.hs_lattice.specs.Listing.{Lists, Evidence}
use Rattle.hs_lattice.specs.Laws.Outcomes.{evidence_as}
use Rattle.partition.specs.Order.{Before}
use Rattle.partition.specs.MeetAndJoin.{IsJoin}
use Rattle.io_pairs.specs.declared.worlds.IoPair.{IoPair}
use Rattle.io_pairs.specs.Inner.RightSides.{AreRights, HaveLefts, HaveRights, IsFamilyMm, IsReached, IsRightSide, ListsRights}
use Rattle.io_pairs.specs.Inner.Families.{AreFunctions, FamilyPair, IsParted}
use Rattle.partition.specs.Laws.Partners.{same_right_of}
use Rattle.partition.specs.Sides.{RightBefore, Sides}
use Rattle.io_pairs.specs.Sides.{sides_of}
use Rattle.partition.specs.Laws.Generating.{HaveJoinsOf, IsJoinOfSome, IsZeroOf}
use Rattle.io_pairs.proofs.Generating.{right_generated}
use Rattle.io_pairs.proofs.Going.{family_pairs_grow}
use Rattle.io_pairs.proofs.Parting.{parted_greatest}
use Rattle.io_pairs.proofs.Reached.{reached_join, reached_pair, reached_two, reached_zero}

module _ (members values : ℕ) (functions : List (List ℕ)) where
  -- each right side of two members is reached
  pub are_reached : (found : List (List ℕ)) → AreRights members values functions found → All (IsReached members values functions) found
  are_reached found rights k d within =
      let two = rights k d within in
      reached_two members values functions two.x two.y (get_or found k d) two.in_x two.in_y two.right

  module _ (are : AreFunctions members values functions) (found : List (List ℕ)) (rights : AreRights members values functions found) where
    to : (q : List ℕ) → IsJoinOfSome values found q → IsReached members values functions q
    to q made =
        let plain = subst (λ (gs : List (List ℕ)). IsGenerated (IsZeroOf values) IsJoin gs q) (map-id found) made in
        IsGenerated-has (IsZeroOf values) IsJoin (IsReached members values functions) found q
        (λ r is. subst (IsReached members values functions) (sym is) (reached_zero members values functions are.some_values))
        (λ a b c one two joined. reached_join members values functions a b c one two joined)
        (are_reached found rights)
        plain

    from : HaveRights values functions members found → HaveJoinsOf values found → (q : List ℕ) → IsRightSide members values functions q → IsJoinOfSome values found q
    from have joins q is =
        let plain = subst (λ (gs : List (List ℕ)). HaveJoins (IsZeroOf values) IsJoin gs) (map-id found) joins in
        let made = right_generated members values functions found have plain q is in
        subst (λ (gs : List (List ℕ)). IsGenerated (IsZeroOf values) IsJoin gs q) (sym (map-id found)) made

    pub listed : HaveRights values functions members found → (items : List (List ℕ)) → Lists Before (IsJoinOfSome values found) (map (λ q. q) items) → HaveJoinsOf values found → ListsRights members values functions items
    listed have items lists joins =
        let plain = subst (λ (xs : List (List ℕ)). Lists Before (IsJoinOfSome values found) xs) (map-id items) lists in
        record {
          ascending = plain.ascending;
          reached = λ k d within. to (get_or items k d) (plain.members k d within);
          complete = λ q is. plain.complete q (from have joins q is);
        }

    pub evident : (limit : ℕ) (items : List (List ℕ)) → Evidence Before (IsJoinOfSome values found) limit (map (λ q. q) items) → Evidence Before (IsReached members values functions) limit items
    evident limit items evidence =
        subst (λ (xs : List (List ℕ)). Evidence Before (IsReached members values functions) limit xs) (map-id items)
        (evidence_as Before (IsJoinOfSome values found) (IsReached members values functions) limit (map (λ q. q) items) to evidence)

    pub unevident : HaveRights values functions members found → (limit : ℕ) → ((xs : List (List ℕ)) → Evidence Before (IsJoinOfSome values found) limit xs → ⊥) → HaveJoinsOf values found
        → (xs : List (List ℕ)) → Evidence Before (IsRightSide members values functions) limit xs → ⊥
    unevident have limit none joins xs evidence = none xs (evidence_as Before (IsRightSide members values functions) (IsJoinOfSome values found) limit xs (from have joins) evidence)

  -- the greatest partner is put beside one more partition
  pub lefts_more : (rights : List (List ℕ)) (items : List IoPair) (pair : IoPair) → HaveLefts members functions rights (map sides_of items) → IsParted members functions pair.right pair.left
      → HaveLefts members functions (rights ++ pair.right ∷ []) (map sides_of (items ++ pair ∷ []))
  lefts_more rights items pair so_far high =
      rw (map_push sides_of items pair) (record {
        same = map_push (λ (x : Sides). x.1) (map sides_of items) (sides_of pair) ∙ ap (λ (qs : List (List ℕ)). qs ++ pair.right ∷ []) so_far.same;
        high = All-push (λ (x : Sides). IsParted members functions x.1 x.0) (map sides_of items) (sides_of pair) so_far.high high;
      })

  -- between the two worlds: partitions, each of which its greatest partner is put beside
  module _ (rights : List (List ℕ)) (pairs : List Sides) (have : HaveLefts members functions rights pairs) where
    long : length pairs ≡ length rights
    long = sym (length-map pairs (λ (x : Sides). x.1)) ∙ ap length have.same

    -- the right side at a place
    right_at : (k : ℕ) (d : Sides) (e : List ℕ) → k < length pairs → get_or rights k e ≡ (get_or pairs k d).1
    right_at k d e within =
        sym (ap (λ (xs : List (List ℕ)). get_or xs k e) have.same) ∙ get_or-map (λ (x : Sides). x.1) pairs k d e within

    ascend : AllPairs Before rights → AllPairs RightBefore pairs
    ascend ascending i j d order within =
        let in_i : i < length pairs = omega arith in
        subst (λ (q : List ℕ). Before q (get_or pairs j d).1) (right_at i d d.1 in_i)
        (subst (λ (q : List ℕ). Before (get_or rights i d.1) q) (right_at j d d.1 within) (ascending i j d.1 order (omega (arith, long))))

    fit : All (IsReached members values functions) rights → All (IsFamilyMm members values functions) pairs
    fit reached k d within =
        reached_pair members values functions (get_or pairs k d).1 (get_or pairs k d).0
        (subst (IsReached members values functions) (right_at k d d.1 within) (reached k d.1 (omega (arith, long)))) (have.high k d within)

    pub paired : ListsRights members values functions rights → Lists RightBefore (IsFamilyMm members values functions) pairs
    paired lists = record {
      ascending = ascend lists.ascending;
      members = fit lists.reached;
      complete = λ z is.
          let at = lists.complete z.1 (z.0, is) in
          let k = at.0 in
          let within : k < length pairs = omega (arith, at.1, long) in
          let same : (get_or pairs k z).1 ≡ z.1 = sym (right_at k z z.1 within) ∙ at.2 in (
            k,
            within,
            same_right_of members values (FamilyPair functions) (family_pairs_grow functions) (get_or pairs k z) z
                (parted_greatest members functions (get_or pairs k z).1 (get_or pairs k z).0 (have.high k z within)) is.high same,
          );
    }

    pub paired_evidence : (limit : ℕ) → Evidence Before (IsReached members values functions) limit rights → Evidence RightBefore (IsFamilyMm members values functions) limit pairs
    paired_evidence limit evidence = record {
      ascending = ascend evidence.ascending;
      members = fit evidence.members;
      more = long ∙ evidence.more;
    }

  -- the right sides of more Mm pairs than the limit
  pub right_evidence : (limit : ℕ) (pairs : List Sides) → Evidence RightBefore (IsFamilyMm members values functions) limit pairs
      → Evidence Before (IsRightSide members values functions) limit (map (λ (x : Sides). x.1) pairs)
  right_evidence limit pairs evidence = record {
    ascending = λ i j d order within.
        let e : Sides = (d, d) in
        let inside : j < length pairs = omega (arith, length-map pairs right) in
        let before : i < length pairs = omega (arith, inside) in
        subst (λ (q : List ℕ). Before q (get_or (map right pairs) j d)) (sym (get_or-map right pairs i e d before))
        (subst (λ (q : List ℕ). Before (get_or pairs i e).1 q) (sym (get_or-map right pairs j e d inside)) (evidence.ascending i j e order inside));
    members = λ k d within.
        let e : Sides = (d, d) in
        let inside : k < length pairs = omega (arith, length-map pairs right) in
        subst (IsRightSide members values functions) (sym (get_or-map right pairs k e d inside)) ((get_or pairs k e).0, evidence.members k e inside);
    more = length-map pairs right ∙ evidence.more;
  }
    where
      right : Sides → List ℕ
      right x = x.1
