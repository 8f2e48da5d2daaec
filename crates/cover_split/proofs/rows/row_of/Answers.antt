use Rattle.std.proofs.Common.{ℕ, ◌≡◌, ◌<◌, ◌-◌, ◌^◌, List, Some, Contains, get_or, length, slice_get, refl, subst, sym, ap, ◌∙◌, arith}
use Rattle.std.proofs.lemmas.Option.{slice_get_read}
use Rattle.machine_table.specs.declared.pieces.Piece.{Piece}
use Rattle.cover_split.specs.Laws.Pairs.{length-pairs_of}
use Rattle.cover_split.proofs.RowLemmas.{goes_among, pair_row, place_inside}
use Rattle.cover_split.proofs.rows.row_of.Goals as goal

-- the piece that is read
read : (pieces list : List Piece) (place : ℕ) (piece : Piece) → list ≡ pieces → place < length pieces → piece ≡ get_or list place piece → slice_get pieces place ≡ Some piece
read pieces list place piece same inside is = slice_get_read pieces (length pieces) place piece refl inside (is ∙ ap (λ (ps : List Piece). get_or ps place piece) same)

pub number_of-requires-clause-among : goal.number_of-requires-clause-among
number_of-requires-clause-among c =
    let F = c.args.m.now in
    let blocks = c.args.blocks.now in
    let piece = c.index-as_slice-at.result in
    let inside = place_inside F blocks c.args.at.number c.args.at.block c.args.at.place c.requires.at c.args.joint.now c.requires.joint in
    let there = read c.args.joint.now.pieces c.as_slice.result.now c.args.at.place piece c.as_slice.ensures inside c.index-as_slice-at.is in
    subst (λ (ps : List (ℕ × ℕ)). Contains ps (c.in-Some.target, piece.next)) (sym c.requires.pairs)
    (goes_among F blocks c.args.at.number c.args.at.block c.args.at.place c.requires.at c.args.joint.now c.requires.joint piece c.in-Some.target there c.in-Some.is)

pub number_of-requires-clause-few : goal.number_of-requires-clause-few
number_of-requires-clause-few c = omega (arith, ap length c.requires.pairs, length-pairs_of c.args.blocks.now, c.requires.cover.few)

pub returns-clause-row : goal.returns-clause-row
returns-clause-row c =
    let F = c.args.m.now in
    let blocks = c.args.blocks.now in
    let piece = c.index-as_slice-at.result in
    let inside = place_inside F blocks c.args.at.number c.args.at.block c.args.at.place c.requires.at c.args.joint.now c.requires.joint in
    let there = read c.args.joint.now.pieces c.as_slice.result.now c.args.at.place piece c.as_slice.ensures inside c.index-as_slice-at.is in
    pair_row F blocks c.args.at.number c.args.at.block c.args.at.place c.requires.at c.args.joint.now c.requires.joint piece c.in-Some.target c.number_of.result _ there c.in-Some.is
    (subst (λ (ps : List (ℕ × ℕ)). slice_get ps c.number_of.result ≡ Some (c.in-Some.target, piece.next)) c.requires.pairs c.number_of.ensures)
    refl refl refl (c.all_outputs.ensures ∙ ap (λ (n : ℕ). 2 ^ n - 1) c.outputs.ensures.count) refl
