-- Joint pieces: how they are found, and what they say.
use Rattle.std.proofs.Common.{◌≡◌, ℕ, ◌+◌, ◌<◌, ◌≤◌, ◌^◌, ◌⊎◌, min, Bool, true, false, Option, Some, None, List, [], ◌∷◌, ◌++◌, All, Contains, IfSome, IsSome, MatchOption, length, get_or, slice_get, refl, sym, ap, ◌∙◌, subst, inl, inr, arith}
use Rattle.std.specs.Option.{option_map_or}
use Rattle.std.proofs.lemmas.Bool.{cases_Bool, cases_lt}
use Rattle.std.proofs.lemmas.List.{get_or_append_left, get_or_default, get_or_push, length_push}
use Rattle.std.proofs.lemmas.List.Elements.{All-contains, All-get_or, Contains-append_left, Contains-get_or, Contains-push, Contains-push_cases}
use Rattle.std.proofs.lemmas.Option.{get_or_from_slice_get, none-some, same_Some, slice_get_within, slice_get-get_or}
use Rattle.cubes.specs.declared.cube.Cube.{Cube}
use Rattle.cubes.specs.Cube.{HoldsNumber, IsHalf, Meets}
use Rattle.cubes.specs.Symbol.{bit, symbol_of}
use Rattle.cubes.specs.Laws.Ends.{least_held, value_le}
use Rattle.cubes.specs.Laws.Parts.{half_from_whole, whole_from_half}
use Rattle.kiss_file.specs.declared.file.KissFile.{KissFile}
use Rattle.kiss_file.specs.Machine.{next}
use Rattle.machine_table.specs.declared.pieces.Piece.{Piece}
use Rattle.machine_table.specs.Pieces.{IsHeldByPiece, IsPiece}
use Rattle.machine_table.specs.Pairs.{AtEachSymbol, IsFirstWithout}
use Rattle.cubes.specs.Laws.SharedCubes.{meets_from_held, value_below}
use Rattle.cover_split.specs.StateCover.{block_at}
use Rattle.cover_split.specs.Expansion.{HasNexts, IsTarget, StaysWithin}
use Rattle.cover_split.specs.declared.joint.Joint.{Joint}
use Rattle.cover_split.specs.Inner.Joints.{AddsJoints, AllLead, AreJoints, AreJointsOfEach, AreListsFor, AreListsMet, AreMet, AreSettled, AreSpread, HasEachNext, IsFirstOf, IsDash, IsHeldByJoint, IsJoint, IsJointOf, IsLeastLeaving, IsTargetOf, IsWholePiece, NoneHasEach, list_at}

-- ---- halves
module _ (cube half : Cube) (place : ℕ) (b : Bool) (is : IsHalf cube half place b) where
  pub spread_half : (pieces met : List Piece) → AreSpread cube pieces → AreMet half pieces met → AreSpread half met
  spread_half pieces met spread are = record {
    width = λ piece among. spread.width piece (are.own piece among) ∙ sym is.width;
    each = each;
  } where
    each : (x : ℕ) → x < 2 ^ half.width → HoldsNumber half x → IsHeldByPiece met x
    each x within held =
        let there = spread.each x (subst (λ (w : ℕ). x < 2 ^ w) is.width within) (whole_from_half cube half place b is x held).0 in
        let widths : half.width ≡ there.0.cube.width = is.width ∙ sym (spread.width there.0 there.1) in
        (there.0, are.each there.0 there.1 (meets_from_held half there.0.cube x widths held there.2), there.2)

  pub spread_lists : (lists met : List (List Piece)) → All (AreSpread cube) lists → AreListsMet half lists met → All (AreSpread half) met
  spread_lists lists met spread are k d within =
      let inside : k < length lists = omega (arith, are.size) in
      subst (AreSpread half) (get_or_default met k [] d within)
      (spread_half (list_at lists k) (list_at met k) (All-get_or (AreSpread cube) lists k [] inside spread) (are.each k inside))

  -- a half's joint piece is one of the cube
  pub joint_of_half : (blocks : List (List ℕ)) (lists met : List (List Piece)) (joint : Joint) → AreListsMet half lists met → IsJointOf blocks met half.width joint → IsJointOf blocks lists cube.width joint
  joint_of_half blocks lists met joint are it = record {
    width_is = it.width_is ∙ is.width;
    settled = record {
      size = it.settled.size ∙ are.size;
      own = λ k piece there.
          let inside : k < length lists = omega (arith, slice_get_within joint.pieces k piece there, it.settled.size, are.size) in
          let known = it.settled.own k piece there in
          ((are.each k inside).own piece known.0, known.1);
    };
    target = it.target;
  }

-- the widths of the pieces of lists
pub widths_of : (cube half : Cube) (lists : List (List Piece)) → half.width ≡ cube.width → All (AreSpread cube) lists
    → All (λ pieces. All (λ piece. piece.cube.width ≡ half.width) pieces) lists
widths_of cube half lists same spread k d within i e inside =
    (All-get_or (AreSpread cube) lists k d within spread).width (get_or (get_or lists k d) i e) (Contains-get_or (get_or lists k d) i e inside) ∙ sym same

module _ (blocks : List (List ℕ)) (lists : List (List Piece)) (cube : Cube) where
  -- both halves together
  pub joints_of_halves : (low high : Cube) (place : ℕ) → IsHalf cube low place false → IsHalf cube high place true → (met met_too : List (List Piece)) → AreListsMet low lists met → AreListsMet high lists met_too
      → (old some more : List Joint) → AddsJoints blocks met low old some → AddsJoints blocks met_too high some more → AddsJoints blocks lists cube old more
  joints_of_halves low high place is_low is_high met met_too are are_too old some more first second = record {
    right = λ joint among.
        elim (second.right joint among) [
          | inl before ↦
              elim (first.right joint before) [
                | inl there ↦ inl there
                | inr made ↦ inr (joint_of_half cube low place false is_low blocks lists met joint are made)
              ]
          | inr made ↦ inr (joint_of_half cube high place true is_high blocks lists met_too joint are_too made)
        ];
    kept = λ joint among. second.kept joint (first.kept joint among);
    each = each;
  } where
    each : (x : ℕ) → HoldsNumber cube x → IsHeldByJoint more x
    each x held =
        elim (cases_Bool (bit x place)) [
          | inl one ↦ second.each x (half_from_whole cube high place true is_high x (held, one))
          | inr none ↦
              let there = first.each x (half_from_whole cube low place false is_low x (held, none)) in
              (there.0, second.kept there.0 there.1, there.2)
        ]

  -- the cube is not halved
  pub one_joint : (joint : Joint) (old new : List Joint) → joint.cube ≡ cube → AreSettled cube lists joint.pieces → IsTargetOf blocks joint.pieces joint.target → new ≡ old ++ joint ∷ []
      → AddsJoints blocks lists cube old new
  one_joint joint old new same settled target added = subst (AddsJoints blocks lists cube old) (sym added) record {
    right = λ other among.
        elim (Contains-push_cases old joint other among) [
          | inl before ↦ inl before
          | inr last ↦ inr (subst (IsJointOf blocks lists cube.width) last record {
            width_is = ap (λ (c : Cube). c.width) same;
            settled = subst (λ (c : Cube). AreSettled c lists joint.pieces) (sym same) settled;
            target = target;
          })
        ];
    kept = λ other among. Contains-append_left old (joint ∷ []) other among;
    each = λ x held. (joint, Contains-push old joint, subst (λ (c : Cube). HoldsNumber c x) (sym same) held);
  }

-- ---- the joint pieces of states
module _ (F : KissFile) (states : List ℕ) (lists : List (List Piece)) (are : AreListsFor F states lists) where
  pub first_spread : (cube : Cube) → cube.width ≡ F.inputs → All (AreSpread cube) lists
  first_spread cube width k d within =
      let inside : k < length states = omega (arith, are.size) in
      let there : slice_get states k ≡ Some (get_or states k 0) = slice_get-get_or states k 0 inside in
      subst (AreSpread cube) (get_or_default lists k [] d within) record {
        width = λ piece among. (All-contains (IsPiece F (get_or states k 0)) (list_at lists k) piece (are.right k (get_or states k 0) there) among).width ∙ sym width;
        each = λ x below held. are.each k x inside (subst (λ (w : ℕ). x < 2 ^ w) width below);
      }

  pub joint_from : (blocks : List (List ℕ)) (width : ℕ) (joint : Joint) → width ≡ F.inputs → IsJointOf blocks lists width joint → IsJoint F blocks states joint
  joint_from blocks width joint same it = record {
    width = it.width_is ∙ same;
    size = it.settled.size ∙ are.size;
    pieces_are = λ k s piece state there.
        let known = it.settled.own k piece there in
        (All-contains (IsPiece F s) (list_at lists k) piece (are.right k s state) known.0, known.1);
    target = it.target;
  }

  pub all_joints : (blocks : List (List ℕ)) (cube : Cube) (none joints : List Joint) → cube.width ≡ F.inputs → ((x : ℕ) → HoldsNumber cube x) → none ≡ [] → AddsJoints blocks lists cube none joints
      → AreJoints F blocks states joints
  all_joints blocks cube none joints width whole empty adds = record {
    right = λ k d within.
        elim (adds.right (get_or joints k d) (Contains-get_or joints k d within)) [
          | inl before ↦ absurd (omega (arith, before.1, ap length empty))
          | inr made ↦ joint_from blocks cube.width (get_or joints k d) width made
        ];
    each = λ x within. adds.each x (whole x);
  }

-- ---- what a joint piece says
module _ (F : KissFile) (blocks : List (List ℕ)) (j : ℕ) (joint : Joint) (is : IsJoint F blocks (block_at blocks j) joint) (x : ℕ) (within : x < 2 ^ F.inputs) (held : HoldsNumber joint.cube x) where
  states : List ℕ
  states = block_at blocks j

  -- the next state of a state of the block
  next_is : (k s : ℕ) (piece : Piece) → slice_get (block_at blocks j) k ≡ Some s → slice_get joint.pieces k ≡ Some piece → next F s (symbol_of F.inputs x) ≡ piece.next
  next_is k s piece state there = let known = is.pieces_are k s piece state there in known.0.next_state x within (known.1 x held)

  pub nexts_from_pieces : (target : ℕ) → target < length blocks → HasEachNext joint.pieces (block_at blocks target) → HasNexts F blocks j (symbol_of F.inputs x) target
  nexts_from_pieces target block each = record {
    block = block;
    each = λ s has.
        let k = has.0 in
        let inside : k < length joint.pieces = omega (arith, has.1, is.size) in
        let any : Piece = record { cube = joint.cube; next = 0; outputs = 0 } in
        let piece = get_or joint.pieces k any in
        let state : slice_get (block_at blocks j) k ≡ Some s = slice_get-get_or (block_at blocks j) k s has.1 ∙ ap Some has.2 in
        subst (Contains (block_at blocks target)) (sym (next_is k s piece state (slice_get-get_or joint.pieces k any inside))) (each k any inside);
  }

  pub pieces_from_nexts : (target : ℕ) → HasNexts F blocks j (symbol_of F.inputs x) target → HasEachNext joint.pieces (block_at blocks target)
  pieces_from_nexts target has k d inside =
      let below : k < length (block_at blocks j) = omega (arith, is.size) in
      let s = get_or (block_at blocks j) k 0 in
      subst (Contains (block_at blocks target)) (next_is k s (get_or joint.pieces k d) (slice_get-get_or (block_at blocks j) k 0 below) (slice_get-get_or joint.pieces k d inside))
      (has.each s (Contains-get_or (block_at blocks j) k 0 below))

  pub joint_target : (target : ℕ) → IsFirstOf blocks joint.pieces target → IsTarget F blocks j (symbol_of F.inputs x) target
  joint_target target first = record {
    has = nexts_from_pieces target first.block first.has;
    first = λ earlier before has. first.first earlier before (pieces_from_nexts earlier has);
  }

  pub joint_leaves : NoneHasEach blocks joint.pieces → StaysWithin F blocks j x → ⊥
  joint_leaves none stays = none stays.0 stays.1.block (pieces_from_nexts stays.0 stays.1)

-- the target of a joint piece, if there is one
pub target_some : (blocks : List (List ℕ)) (pieces : List Piece) (target : Option ℕ) (t : ℕ) → target ≡ Some t → IsTargetOf blocks pieces target → IsFirstOf blocks pieces t
target_some blocks pieces (Some u) t is of = subst (IsFirstOf blocks pieces) (same_Some u t is) of
target_some blocks pieces None t is of = absurd (none-some t is)

pub target_none : (blocks : List (List ℕ)) (pieces : List Piece) (target : Option ℕ) → target ≡ None → IsTargetOf blocks pieces target → NoneHasEach blocks pieces
target_none blocks pieces None is of = of
target_none blocks pieces (Some t) is of = absurd (none-some t (sym is))

-- ---- a block whose joint pieces all lead to blocks, and one that leaves
module _ (F : KissFile) (blocks : List (List ℕ)) (j : ℕ) (joints : List Joint) (are : AreJoints F blocks (block_at blocks j) joints) where
  joint_is : (joint : Joint) → Contains joints joint → IsJoint F blocks (block_at blocks j) joint
  joint_is joint among = All-contains (IsJoint F blocks (block_at blocks j)) joints joint are.right among

  pub stays_from_lead : AllLead joints → AtEachSymbol F.inputs (StaysWithin F blocks j)
  stays_from_lead lead x within =
      let there = are.each x within in
      let joint = there.0 in
      let it = joint_is joint there.1 in
      let goes = lead joint there.1 in
      let target = joint_target F blocks j joint it x within there.2 goes.0 (target_some blocks joint.pieces joint.target goes.0 goes.1 it.target) in
      (goes.0, target.has)

  pub first_leaving_from : (x : ℕ) → IsLeastLeaving joints x → IsFirstWithout F.inputs (StaysWithin F blocks j) x
  first_leaving_from x found = record {
    within = below;
    without = subst (λ (y : ℕ). StaysWithin F blocks j y → ⊥) found.least_of_it
        (joint_leaves F blocks j found.joint (joint_is found.joint found.among) found.joint.cube.value (subst (λ (y : ℕ). y < 2 ^ F.inputs) (sym found.least_of_it) below) (least_held found.joint.cube)
        (target_none blocks found.joint.pieces found.joint.target found.leads_nowhere (joint_is found.joint found.among).target));
    before = before;
  } where
    below : x < 2 ^ F.inputs
    below =
        subst (λ (y : ℕ). y < 2 ^ F.inputs) found.least_of_it
        (subst (λ (w : ℕ). found.joint.cube.value < 2 ^ w) (joint_is found.joint found.among).width (value_below found.joint.cube))

    before : (y : ℕ) → y < x → StaysWithin F blocks j y
    before y earlier =
        let inside : y < 2 ^ F.inputs = omega (arith, below) in
        let there = are.each y inside in
        let joint = there.0 in
        let it = joint_is joint there.1 in
        go joint there.1 there.2 it joint.target refl inside where
          go : (joint : Joint) → Contains joints joint → HoldsNumber joint.cube y → IsJoint F blocks (block_at blocks j) joint → (target : Option ℕ) → joint.target ≡ target → y < 2 ^ F.inputs → StaysWithin F blocks j y
          go joint among held it (Some t) is inside =
              (t, (joint_target F blocks j joint it y inside held t (target_some blocks joint.pieces joint.target t is it.target)).has)
          go joint among held it None is inside = absurd (omega (arith, found.least joint among is, value_le joint.cube y held))

-- ---- the pieces of the first places that meet a cube
pub record AreMetBelow (cube : Cube) (pieces : List Piece) (count : ℕ) (met : List Piece) : Type 0 where
  pub own : (piece : Piece) → Contains met piece → Contains pieces piece
  pub each : (k : ℕ) (d : Piece) → k < count → Meets cube (get_or pieces k d).cube → Contains met (get_or pieces k d)

pub none_met : (cube : Cube) (pieces : List Piece) → AreMetBelow cube pieces 0 []
none_met cube pieces = record {
  own = λ piece among. absurd (omega (arith, among.1));
  each = λ k d within. absurd (omega arith);
}

module _ (cube : Cube) (pieces : List Piece) (count : ℕ) (met : List Piece) (piece : Piece) (so_far : AreMetBelow cube pieces count met) (inside : count < length pieces) (here : piece ≡ get_or pieces count piece) where
  same_piece : (k : ℕ) (d : Piece) → count ≡ k → get_or pieces k d ≡ piece
  same_piece k d same = ap (λ (n : ℕ). get_or pieces n d) (sym same) ∙ get_or_default pieces count d piece inside ∙ sym here

  pub met_more : (new : List Piece) → new ≡ met ++ piece ∷ [] → AreMetBelow cube pieces (count + 1) new
  met_more new added = subst (AreMetBelow cube pieces (count + 1)) (sym added) record {
    own = λ other among.
        elim (Contains-push_cases met piece other among) [
          | inl before ↦ so_far.own other before
          | inr last ↦ subst (Contains pieces) last (count, inside, sym here)
        ];
    each = λ k d within meets.
        elim (cases_lt k count) [
          | inl before ↦ Contains-append_left met (piece ∷ []) (get_or pieces k d) (so_far.each k d before meets)
          | inr last ↦ let same : count ≡ k = omega arith in subst (Contains (met ++ piece ∷ [])) (sym (same_piece k d same)) (Contains-push met piece)
        ];
  }

  pub met_past : (Meets cube piece.cube → ⊥) → AreMetBelow cube pieces (count + 1) met
  met_past apart = record {
    own = so_far.own;
    each = λ k d within meets.
        elim (cases_lt k count) [
          | inl before ↦ so_far.each k d before meets
          | inr last ↦ let same : count ≡ k = omega arith in absurd (apart (subst (λ (p : Piece). Meets cube p.cube) (same_piece k d same) meets))
        ];
  }

pub all_met : (cube : Cube) (pieces : List Piece) (count : ℕ) (met : List Piece) → length pieces ≤ count → AreMetBelow cube pieces count met → AreMet cube pieces met
all_met cube pieces count met past so_far = record {
  own = so_far.own;
  each = λ piece among meets.
      subst (Contains met) among.2 (so_far.each among.0 piece (omega (arith, among.1)) (subst (λ (p : Piece). Meets cube p.cube) (sym among.2) meets));
}

-- ---- lists of pieces, one after another
pub record AreListsMetBelow (cube : Cube) (lists : List (List Piece)) (count : ℕ) (met : List (List Piece)) : Type 0 where
  pub size : length met ≡ count
  pub each : (k : ℕ) → k < count → AreMet cube (list_at lists k) (list_at met k)

pub lists_met_more : (cube : Cube) (lists : List (List Piece)) (count : ℕ) (met new : List (List Piece)) (pieces some : List Piece) → AreListsMetBelow cube lists count met → count < length lists → pieces ≡ list_at lists count
    → AreMet cube pieces some → new ≡ met ++ some ∷ [] → AreListsMetBelow cube lists (count + 1) new
lists_met_more cube lists count met new pieces some so_far inside here are added = subst (AreListsMetBelow cube lists (count + 1)) (sym added) record {
  size = length_push met some ∙ ap (λ (n : ℕ). n + 1) so_far.size;
  each = λ k within.
      elim (cases_lt k count) [
        | inl before ↦ subst (AreMet cube (list_at lists k)) (sym (get_or_append_left met (some ∷ []) [] k (omega (arith, so_far.size)))) (so_far.each k before)
        | inr last ↦
            let same : count ≡ k = omega arith in
            subst (AreMet cube (list_at lists k)) (sym (get_or_push met some [] k (so_far.size ∙ same)))
            (subst (λ (list : List Piece). AreMet cube list some) (here ∙ ap (list_at lists) same) are)
      ];
}

-- ---- whole pieces, one after another
pub record AreSettledBelow (cube : Cube) (lists : List (List Piece)) (count : ℕ) (found : List Piece) : Type 0 where
  pub size : length found ≡ count
  pub own : (k : ℕ) (piece : Piece) → slice_get found k ≡ Some piece → IsWholePiece cube (list_at lists k) piece

pub settled_more : (cube : Cube) (lists : List (List Piece)) (count : ℕ) (found new pieces : List Piece) (piece : Piece) → AreSettledBelow cube lists count found → pieces ≡ list_at lists count
    → IsWholePiece cube pieces piece → new ≡ found ++ piece ∷ [] → AreSettledBelow cube lists (count + 1) new
settled_more cube lists count found new pieces piece so_far here is added = subst (AreSettledBelow cube lists (count + 1)) (sym added) record {
  size = length_push found piece ∙ ap (λ (n : ℕ). n + 1) so_far.size;
  own = λ k other there.
      let inside : k < length (found ++ piece ∷ []) = slice_get_within (found ++ piece ∷ []) k other there in
      let is_other : get_or (found ++ piece ∷ []) k other ≡ other = get_or_from_slice_get (found ++ piece ∷ []) k other other there in
      elim (cases_lt k (length found)) [
        | inl before ↦ so_far.own k other (slice_get-get_or found k other before ∙ ap Some (sym (get_or_append_left found (piece ∷ []) other k before) ∙ is_other))
        | inr last ↦
            let same : length found ≡ k = omega (arith, length_push found piece) in
            let is_piece : piece ≡ other = sym (get_or_push found piece other k same) ∙ is_other in
            subst (IsWholePiece cube (list_at lists k)) is_piece
            (subst (λ (list : List Piece). IsWholePiece cube list piece) (here ∙ ap (list_at lists) (sym so_far.size ∙ same)) is)
      ];
}

-- ---- a place at which to halve
pub record IsLookedAt (cube : Cube) (pieces : List Piece) (count : ℕ) (place : Option ℕ) : Type 0 where
  pub some : IfSome place (IsDash cube)
  pub none : place ≡ None → (k : ℕ) (d : Piece) → k < count → Meets cube (get_or pieces k d).cube → ⊥

pub nothing_looked_at : (cube : Cube) (pieces : List Piece) → IsLookedAt cube pieces 0 None
nothing_looked_at cube pieces = record { some = tt; none = λ _ k d within. absurd (omega arith) }

pub looked_past : (cube : Cube) (pieces : List Piece) (count : ℕ) (place : Option ℕ) (piece : Piece) → IsLookedAt cube pieces count place → count < length pieces → piece ≡ get_or pieces count piece
    → (Meets cube piece.cube → ⊥) → IsLookedAt cube pieces (count + 1) place
looked_past cube pieces count place piece so_far inside here apart = record {
  some = so_far.some;
  none = λ nothing k d within meets.
      elim (cases_lt k count) [
        | inl before ↦ so_far.none nothing k d before meets
        | inr last ↦
            let same : k ≡ count = omega arith in
            let is : get_or pieces k d ≡ piece = ap (λ (n : ℕ). get_or pieces n d) same ∙ get_or_default pieces count d piece inside ∙ sym here in
            apart (subst (λ (p : Piece). Meets cube p.cube) is meets)
      ];
}

pub looked_at_more : (cube : Cube) (pieces : List Piece) (count : ℕ) (place new : Option ℕ) → IsSome new → IfSome new (IsDash cube) → IsLookedAt cube pieces (count + 1) new
looked_at_more cube pieces count place (Some p) some dash = record { some = dash; none = λ nothing. absurd (cc) }
looked_at_more cube pieces count place None some dash = absurd (cc)

-- some piece meets the cube
pub some_looked_at : (cube : Cube) (pieces : List Piece) (count : ℕ) (place : Option ℕ) → AreSpread cube pieces → length pieces ≤ count → IsLookedAt cube pieces count place → place ≡ None → ⊥
some_looked_at cube pieces count place spread past so_far nothing =
    let there = spread.each cube.value (value_below cube) (least_held cube) in
    let piece = there.0 in
    let meets : Meets cube piece.cube = meets_from_held cube piece.cube cube.value (sym (spread.width piece there.1)) (least_held cube) there.2 in
    so_far.none nothing there.1.0 piece (omega (arith, there.1.1)) (subst (λ (p : Piece). Meets cube p.cube) (sym there.1.2) meets)

-- ---- the pieces of states, one after another
pub record AreListsForBelow (F : KissFile) (states : List ℕ) (count : ℕ) (lists : List (List Piece)) : Type 0 where
  pub size : length lists ≡ count
  pub right : (k s : ℕ) → k < count → slice_get states k ≡ Some s → All (IsPiece F s) (list_at lists k)
  pub each : (k x : ℕ) → k < count → x < 2 ^ F.inputs → IsHeldByPiece (list_at lists k) x

pub lists_for_more : (F : KissFile) (states : List ℕ) (count : ℕ) (lists new : List (List Piece)) (pieces : List Piece) → AreListsForBelow F states count lists → count < length states
    → All (IsPiece F (get_or states count 0)) pieces → ((x : ℕ) → x < 2 ^ F.inputs → IsHeldByPiece pieces x) → new ≡ lists ++ pieces ∷ [] → AreListsForBelow F states (count + 1) new
lists_for_more F states count lists new pieces so_far inside right each added = subst (AreListsForBelow F states (count + 1)) (sym added) record {
  size = length_push lists pieces ∙ ap (λ (n : ℕ). n + 1) so_far.size;
  right = λ k s within there.
      elim (cases_lt k count) [
        | inl before ↦ subst (All (IsPiece F s)) (sym (get_or_append_left lists (pieces ∷ []) [] k (omega (arith, so_far.size)))) (so_far.right k s before there)
        | inr last ↦
            let same : count ≡ k = omega arith in
            let state : get_or states count 0 ≡ s = ap (λ (n : ℕ). get_or states n 0) same ∙ get_or_from_slice_get states k s 0 there in
            subst (All (IsPiece F s)) (sym (get_or_push lists pieces [] k (so_far.size ∙ same))) (subst (λ (t : ℕ). All (IsPiece F t) pieces) state right)
      ];
  each = λ k x within below.
      elim (cases_lt k count) [
        | inl before ↦ subst (λ (list : List Piece). IsHeldByPiece list x) (sym (get_or_append_left lists (pieces ∷ []) [] k (omega (arith, so_far.size)))) (so_far.each k x before below)
        | inr last ↦
            let same : count ≡ k = omega arith in
            subst (λ (list : List Piece). IsHeldByPiece list x) (sym (get_or_push lists pieces [] k (so_far.size ∙ same))) (each x below)
      ];
}

pub no_lists_for : (F : KissFile) (states : List ℕ) → AreListsForBelow F states 0 []
no_lists_for F states = record {
  size = refl;
  right = λ k s within. absurd (omega arith);
  each = λ k x within. absurd (omega arith);
}

pub all_lists_for : (F : KissFile) (states : List ℕ) (count : ℕ) (lists : List (List Piece)) → count ≡ length states → AreListsForBelow F states count lists → AreListsFor F states lists
all_lists_for F states count lists whole so_far = record {
  size = so_far.size ∙ whole;
  right = λ k s there. so_far.right k s (omega (arith, slice_get_within states k s there)) there;
  each = λ k x within below. so_far.each k x (omega arith) below;
}

-- ---- the joint pieces of one block more
pub joints_more : (F : KissFile) (blocks : List (List ℕ)) (lists new : List (List Joint)) (joints : List Joint) → AreJointsOfEach F blocks lists → AreJoints F blocks (block_at blocks (length lists)) joints → AllLead joints
    → new ≡ lists ++ joints ∷ [] → AreJointsOfEach F blocks new
joints_more F blocks lists new joints so_far are lead added = subst (AreJointsOfEach F blocks) (sym added) record {
  right = λ j some there.
      elim (which j some there) [
        | inl before ↦ so_far.right j some before
        | inr last ↦ subst (λ (k : ℕ). AreJoints F blocks (block_at blocks k) some) last.0 (subst (AreJoints F blocks (block_at blocks (length lists))) last.1 are)
      ];
  lead = λ j some there.
      elim (which j some there) [
        | inl before ↦ so_far.lead j some before
        | inr last ↦ subst AllLead last.1 lead
      ];
} where
  which : (j : ℕ) (some : List Joint) → slice_get (lists ++ joints ∷ []) j ≡ Some some → (slice_get lists j ≡ Some some) ⊎ ((length lists ≡ j) × (joints ≡ some))
  which j some there =
      let inside : j < length (lists ++ joints ∷ []) = slice_get_within (lists ++ joints ∷ []) j some there in
      let is : get_or (lists ++ joints ∷ []) j some ≡ some = get_or_from_slice_get (lists ++ joints ∷ []) j some some there in
      elim (cases_lt j (length lists)) [
        | inl before ↦ inl (slice_get-get_or lists j some before ∙ ap Some (sym (get_or_append_left lists (joints ∷ []) some j before) ∙ is))
        | inr past ↦
            let same : length lists ≡ j = omega (arith, length_push lists joints) in
            inr (same, sym (get_or_push lists joints some j same) ∙ is)
      ]

pub no_joints : (F : KissFile) (blocks : List (List ℕ)) → AreJointsOfEach F blocks []
no_joints F blocks = record {
  right = λ j some there. absurd (none-some some there);
  lead = λ j some there. absurd (none-some some there);
}

-- ---- the least symbol at which one of the first joint pieces leads to no block
abbrev pub IsScanned : List Joint → Option ℕ → Type 0
IsScanned joints least = MatchOption least (AllLead joints) (IsLeastLeaving joints)

pub nothing_scanned : IsScanned [] None
nothing_scanned joint among = absurd (omega (arith, among.1))

pub scan_leads : (joints : List Joint) (joint : Joint) (least : Option ℕ) (target : ℕ) → joint.target ≡ Some target → IsScanned joints least → IsScanned (joints ++ joint ∷ []) least
scan_leads joints joint None target goes so_far = λ other among.
    elim (Contains-push_cases joints joint other among) [
      | inl before ↦ so_far other before
      | inr last ↦ (target, subst (λ (q : Joint). q.target ≡ Some target) last goes)
    ]
scan_leads joints joint (Some x) target goes so_far = record {
  joint = so_far.joint;
  among = Contains-append_left joints (joint ∷ []) so_far.joint so_far.among;
  leads_nowhere = so_far.leads_nowhere;
  least_of_it = so_far.least_of_it;
  least = λ other among none.
      elim (Contains-push_cases joints joint other among) [
        | inl before ↦ so_far.least other before none
        | inr last ↦ absurd (none-some target (sym none ∙ ap (λ (q : Joint). q.target) (sym last) ∙ goes))
      ];
}

pub scan_leaves : (joints : List Joint) (joint : Joint) (least : Option ℕ) (new : ℕ) → joint.target ≡ None → new ≡ option_map_or (min joint.cube.value) least joint.cube.value → IsScanned joints least
    → IsLeastLeaving (joints ++ joint ∷ []) new
scan_leaves joints joint None new none is so_far = record {
  joint = joint;
  among = Contains-push joints joint;
  leads_nowhere = none;
  least_of_it = sym is;
  least = λ other among nowhere.
      elim (Contains-push_cases joints joint other among) [
        | inl before ↦ let goes = so_far other before in absurd (none-some goes.0 (sym nowhere ∙ goes.1))
        | inr last ↦ omega (arith, is, ap (λ (q : Joint). q.cube.value) last)
      ];
}
scan_leaves joints joint (Some y) new none is so_far =
    elim (cases_lt y joint.cube.value) [
      | inl lower ↦ record {
        joint = so_far.joint;
        among = Contains-append_left joints (joint ∷ []) so_far.joint so_far.among;
        leads_nowhere = so_far.leads_nowhere;
        least_of_it = omega (arith, so_far.least_of_it, is);
        least = λ other among nowhere.
            elim (Contains-push_cases joints joint other among) [
              | inl before ↦ omega (arith, so_far.least other before nowhere, is)
              | inr last ↦ omega (arith, is, ap (λ (q : Joint). q.cube.value) last)
            ];
      }
      | inr higher ↦ record {
        joint = joint;
        among = Contains-push joints joint;
        leads_nowhere = none;
        least_of_it = omega (arith, is);
        least = λ other among nowhere.
            elim (Contains-push_cases joints joint other among) [
              | inl before ↦ omega (arith, so_far.least other before nowhere, is)
              | inr last ↦ omega (arith, is, ap (λ (q : Joint). q.cube.value) last)
            ];
      }
    ]
