-- The rows of pairs, one after another.
use Rattle.std.proofs.Common.{◌≡◌, ℕ, ◌+◌, ◌-◌, ◌<◌, ◌≤◌, ◌^◌, Option, Some, List, [], ◌∷◌, ◌++◌, All, AllPairs, Contains, length, get_or, slice_get, refl, sym, ap, ◌∙◌, subst, inl, inr, arith}
use Rattle.std.proofs.lemmas.Bool.{cases_lt}
use Rattle.std.proofs.lemmas.List.{append-nil, append_assoc, get_or_append_left, get_or-append_right, get_or_default, length-append}
use Rattle.std.proofs.lemmas.List.Elements.{All-append, All-get_or, All-nil, All-push, All-weaker, Contains-append_left, Contains-append_right, Contains-push}
use Rattle.std.proofs.lemmas.Option.{get_or_from_slice_get, same_Some, slice_get_within, slice_get-get_or}
use Rattle.cubes.specs.declared.cube.Cube.{Cube}
use Rattle.cubes.specs.Cube.{HoldsNumber}
use Rattle.cubes.specs.Symbol.{symbol_of, lowest_bits}
use Rattle.kiss_file.specs.declared.file.KissFile.{KissFile}
use Rattle.kiss_file.specs.declared.file.KissRow.{KissRow}
use Rattle.kiss_file.specs.Machine.{next, out}
use Rattle.machine_table.specs.declared.pieces.Piece.{Piece}
use Rattle.machine_table.specs.Pieces.{IsPiece}
use Rattle.cover_split.specs.StateCover.{Has, block_at}
use Rattle.cover_split.specs.Expansion.{IsTarget, pairs_of}
use Rattle.cover_split.specs.declared.joint.Joint.{Joint}
use Rattle.cover_split.specs.Inner.Joints.{AreJoints, HoldsAllOf, IsJoint}
use Rattle.cover_split.specs.Inner.Rows.{AddsRows, AreRowsBelow, IsPairRow, IsPlaceOf}
use Rattle.cover_split.proofs.JointLemmas.{joint_target, target_some}
use Rattle.cover_split.specs.Laws.Pairs.{pair_of}

-- a pair of a block and a state in it is among the pairs
pub pair_among : (blocks : List (List ℕ)) (j s : ℕ) → Has blocks j s → Contains (pairs_of blocks) (j, s)
pair_among blocks j s has =
    let it = pair_of blocks j s has in
    (it.0, slice_get_within (pairs_of blocks) it.0 (j, s) it.1, get_or_from_slice_get (pairs_of blocks) it.0 (j, s) (j, s) it.1)

-- a pair that is there
abbrev made : ℕ → ℕ → Option (ℕ × ℕ)
made j s = Some (j, s)

abbrev Pairs_are : ℕ × ℕ → ℕ × ℕ → Type 0
Pairs_are one two = one ≡ two

-- ---- one row
module _ (F : KissFile) (blocks : List (List ℕ)) (i j place : ℕ) (at : IsPlaceOf blocks i j place) (joint : Joint) (is : IsJoint F blocks (block_at blocks j) joint) where
  pub place_inside : place < length joint.pieces
  place_inside = omega (arith, at.within, is.size)

  state_there : slice_get (block_at blocks j) place ≡ Some (get_or (block_at blocks j) place 0)
  state_there = slice_get-get_or (block_at blocks j) place 0 at.within

  -- where the pair goes is a pair
  pub goes_among : (piece : Piece) (t : ℕ) → slice_get joint.pieces place ≡ Some piece → joint.target ≡ Some t → Contains (pairs_of blocks) (t, piece.next)
  goes_among piece t there leads =
      let first = target_some blocks joint.pieces joint.target t leads is.target in
      pair_among blocks t piece.next
      (subst (λ (p : Piece). Contains (block_at blocks t) p.next) (get_or_from_slice_get joint.pieces place piece piece there) (first.has place piece place_inside))

  pub pair_row : (piece : Piece) (t number : ℕ) (row : KissRow) → slice_get joint.pieces place ≡ Some piece → joint.target ≡ Some t → slice_get (pairs_of blocks) number ≡ Some (t, piece.next)
      → row.from ≡ i → row.cube ≡ joint.cube → row.to ≡ Some number → row.care ≡ 2 ^ F.outputs - 1 → row.value ≡ piece.outputs → IsPairRow F blocks i row
  pair_row piece t number row there leads goes from cube to care value = record {
    from = from;
    width = ap (λ (c : Cube). c.width) cube ∙ is.width;
    target = number;
    to = to;
    among = slice_get_within (pairs_of blocks) number (t, piece.next) goes;
    leads = λ x within held k s pair.
        let same : Pairs_are (k, s) (j, get_or (block_at blocks j) place 0) = same_Some {A = ℕ × ℕ} (k, s) (j, get_or (block_at blocks j) place 0) (sym pair ∙ at.pair) in
        let block : j ≡ k = sym (ap (λ (p : ℕ × ℕ). p.0) same) in
        let source : get_or (block_at blocks j) place 0 ≡ s = sym (ap (λ (p : ℕ × ℕ). p.1) same) in
        let inside : HoldsNumber joint.cube x = subst (λ (c : Cube). HoldsNumber c x) cube held in
        let first = joint_target F blocks j joint is x within inside t (target_some blocks joint.pieces joint.target t leads is.target) in
        let moves : next F (get_or (block_at blocks j) place 0) (symbol_of F.inputs x) ≡ piece.next = known.0.next_state x within (known.1 x inside) in (
          t,
          subst (λ (b : ℕ). IsTarget F blocks b (symbol_of F.inputs x) t) block first,
          goes ∙ ap (made t) (sym moves ∙ ap (λ (u : ℕ). next F u (symbol_of F.inputs x)) source),
        );
    care = care;
    value = subst (λ (n : ℕ). n < 2 ^ F.outputs) (sym value) known.0.no_more;
    gives = λ k s x pair within held.
        let same : Pairs_are (k, s) (j, get_or (block_at blocks j) place 0) = same_Some {A = ℕ × ℕ} (k, s) (j, get_or (block_at blocks j) place 0) (sym pair ∙ at.pair) in
        let source : s ≡ get_or (block_at blocks j) place 0 = ap (λ (p : ℕ × ℕ). p.1) same in
        let inside : HoldsNumber joint.cube x = subst (λ (c : Cube). HoldsNumber c x) cube held in
        ap (λ (u : ℕ). out F u (symbol_of F.inputs x)) source ∙ known.0.outputs x within (known.1 x inside) ∙ sym (ap (lowest_bits F.outputs) value);
  } where
    known : IsPiece F (get_or (block_at blocks j) place 0) piece × HoldsAllOf joint.cube piece
    known = is.pieces_are place (get_or (block_at blocks j) place 0) piece state_there there

-- ---- the rows of a pair for the first joint pieces
pub record AreRowsFor (F : KissFile) (blocks : List (List ℕ)) (i : ℕ) (joints : List Joint) (count : ℕ) (old new : List KissRow) : Type 0 where
  pub more : List KissRow
  pub added : new ≡ old ++ more
  pub right : All (IsPairRow F blocks i) more
  pub each : (k : ℕ) (d : Joint) → k < count → (row : KissRow) × Contains more row × (row.from ≡ i) × (row.cube ≡ (get_or joints k d).cube)

pub no_rows_for : (F : KissFile) (blocks : List (List ℕ)) (i : ℕ) (joints : List Joint) (old : List KissRow) → AreRowsFor F blocks i joints 0 old old
no_rows_for F blocks i joints old = record {
  more = [];
  added = sym (append-nil old);
  right = All-nil (IsPairRow F blocks i);
  each = λ k d within. absurd (omega arith);
}

pub rows_for_more : (F : KissFile) (blocks : List (List ℕ)) (i : ℕ) (joints : List Joint) (count : ℕ) (old rows new : List KissRow) (joint : Joint) (row : KissRow) → AreRowsFor F blocks i joints count old rows
    → count < length joints → joint ≡ get_or joints count joint → IsPairRow F blocks i row → row.cube ≡ joint.cube → new ≡ rows ++ row ∷ [] → AreRowsFor F blocks i joints (count + 1) old new
rows_for_more F blocks i joints count old rows new joint row so_far inside here is cube added = record {
  more = so_far.more ++ row ∷ [];
  added = added ∙ ap (λ (xs : List KissRow). xs ++ row ∷ []) so_far.added ∙ append_assoc old so_far.more (row ∷ []);
  right = All-push (IsPairRow F blocks i) so_far.more row so_far.right is;
  each = λ k d within.
      elim (cases_lt k count) [
        | inl before ↦
            let it = so_far.each k d before in
            (it.0, Contains-append_left so_far.more (row ∷ []) it.0 it.1, it.2, it.3)
        | inr last ↦
            let same : count ≡ k = omega arith in (
              row,
              Contains-push so_far.more row,
              is.from,
              cube ∙ ap (λ (q : Joint). q.cube) (here ∙ get_or_default joints count joint d inside ∙ ap (λ (n : ℕ). get_or joints n d) same),
            )
      ];
}

pub rows_of_pair : (F : KissFile) (blocks : List (List ℕ)) (i j : ℕ) (joints : List Joint) (count : ℕ) (old new : List KissRow) → AreRowsFor F blocks i joints count old new → length joints ≤ count
    → AreJoints F blocks (block_at blocks j) joints → AddsRows F blocks i old new
rows_of_pair F blocks i j joints count old new so_far past are = (
  so_far.more,
  so_far.added,
  record {
    right = so_far.right;
    each = λ x within.
        let there = are.each x within in
        let k = there.1.0 in
        let it = so_far.each k there.0 (omega (arith, there.1.1)) in
        (it.0, it.1, it.2, subst (λ (c : Cube). HoldsNumber c x) (sym (it.3 ∙ ap (λ (q : Joint). q.cube) there.1.2)) there.2);
  },
)

-- ---- pair after pair
pub no_rows : (F : KissFile) (blocks : List (List ℕ)) → AreRowsBelow F blocks 0 []
no_rows F blocks = record {
  right = All-nil (λ row. (row.from < 0) × IsPairRow F blocks row.from row);
  each = λ i x below. absurd (omega arith);
  in_order = λ i j d before within. absurd (omega arith);
}

pub rows_more : (F : KissFile) (blocks : List (List ℕ)) (count : ℕ) (old new : List KissRow) → AreRowsBelow F blocks count old → AddsRows F blocks count old new → AreRowsBelow F blocks (count + 1) new
rows_more F blocks count old new so_far (more, added, are) = subst (AreRowsBelow F blocks (count + 1)) (sym added) record {
  right = All-append (λ row. (row.from < count + 1) × IsPairRow F blocks row.from row) old more
      (All-weaker (λ row. (row.from < count) × IsPairRow F blocks row.from row) (λ row. (row.from < count + 1) × IsPairRow F blocks row.from row) (λ row it. (omega (arith, it.0), it.1)) old so_far.right)
      (All-weaker (IsPairRow F blocks count) (λ row. (row.from < count + 1) × IsPairRow F blocks row.from row)
      (λ row it. (omega (arith, it.from), subst (λ (i : ℕ). IsPairRow F blocks i row) (sym it.from) it)) more are.right);
  each = λ i x below within.
      elim (cases_lt i count) [
        | inl before ↦
            let it = so_far.each i x before within in
            (it.0, Contains-append_left old more it.0 it.1, it.2, it.3)
        | inr last ↦
            let same : count ≡ i = omega arith in
            let it = are.each x within in
            (it.0, Contains-append_right old more it.0 it.1, it.2 ∙ same, it.3)
      ];
  in_order = in_order;
} where
  in_order : AllPairs (λ row other. row.from ≤ other.from) (old ++ more)
  in_order i j d before within =
      elim (cases_lt j (length old)) [
        | inl left ↦
            let first : get_or (old ++ more) i d ≡ get_or old i d = get_or_append_left old more d i (omega arith) in
            let second : get_or (old ++ more) j d ≡ get_or old j d = get_or_append_left old more d j left in
            omega (arith, ap (λ (r : KissRow). r.from) first, ap (λ (r : KissRow). r.from) second, so_far.in_order i j d before left)
        | inr right ↦
            let second : get_or (old ++ more) j d ≡ get_or more (j - length old) d = get_or-append_right old more (length old) j d refl right in
            let last : (get_or more (j - length old) d).from ≡ count = (All-get_or (IsPairRow F blocks count) more (j - length old) d (omega (arith, length-append old more)) are.right).from in
            elim (cases_lt i (length old)) [
              | inl under ↦
                  let first : get_or (old ++ more) i d ≡ get_or old i d = get_or_append_left old more d i under in
                  let low = (All-get_or (λ row. (row.from < count) × IsPairRow F blocks row.from row) old i d under so_far.right).0 in
                  omega (arith, ap (λ (r : KissRow). r.from) first, ap (λ (r : KissRow). r.from) second, last, low)
              | inr over ↦
                  let first : get_or (old ++ more) i d ≡ get_or more (i - length old) d = get_or-append_right old more (length old) i d refl over in
                  let also : (get_or more (i - length old) d).from ≡ count = (All-get_or (IsPairRow F blocks count) more (i - length old) d (omega (arith, length-append old more)) are.right).from in
                  omega (arith, ap (λ (r : KissRow). r.from) first, ap (λ (r : KissRow). r.from) second, last, also)
            ]
      ]
