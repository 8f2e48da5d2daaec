-- The lines before the network, as they are appended.
use Rattle.std.proofs.Common.{◌≡◌, ℕ, ◌+◌, ◌<◌, List, [], ◌++◌, Some, codes, length, map, take, get_or, sym, ap, ◌∙◌, arith, append_assoc}
use Rattle.std.specs.List.{enumerate_from, flat_map, slice_get, zip}
use Rattle.std.proofs.lemmas.Grind.{flat_map-append}
use Rattle.std.proofs.lemmas.List.Folds.{flat_map-map}
use Rattle.std.proofs.lemmas.Option.{get_or_from_slice_get}
use Rattle.std.proofs.lemmas.Slice.Zip.{length-zip, get_or-zip}
use Rattle.list_facts.specs.Laws.Appending.{item_more}
use Rattle.blif_out.specs.declared.header.LatchNote.{LatchNote}
use Rattle.blif_out.specs.Head.{comment_text, note_fields}
use Rattle.blif_out.specs.Inner.Pieces.{note_line}
use Rattle.cover_split.specs.Expansion.{pairs_of}
use Rattle.cover_texts.specs.Inner.Pieces.{block_line, pair_line}
use Rattle.cover_texts.specs.Lines.{block_fields, cover_comments, cover_fields, pair_fields}
use Rattle.hs_io.specs.Spelling.{ended}

-- the codes of pairs, one after another
pub pairs_more : (f : (ℕ × ℕ) × ℕ → List ℕ) (start text new : List ℕ) (pairs : List (ℕ × ℕ)) (words : List ℕ) (i : ℕ) (pair : ℕ × ℕ) (word : ℕ) → i < length pairs → i < length words → get_or pairs i pair ≡ pair → get_or words i word ≡ word → text ≡ start ++ flat_map f (take i (zip pairs words)) → new ≡ text ++ f (pair, word) → new ≡ start ++ flat_map f (take (i + 1) (zip pairs words))
pairs_more f start text new pairs words i pair word paired worded is_pair is_word before pushed =
    let there : get_or (zip pairs words) i (pair, word) ≡ (pair, word) =
    get_or-zip pairs words i (pair, word) paired worded ∙ ap (λ (p : ℕ × ℕ). (p, get_or words i word)) is_pair ∙ ap (λ (w : ℕ). (pair, w)) is_word in
    item_more f start text new (zip pairs words) i (pair, word) (omega (arith, paired, worded, length-zip pairs words)) there before pushed

-- the name that stands at a place
pub name_there : (names : List (List ℕ)) (s t : ℕ) (name : List ℕ) → t ≡ s → slice_get names t ≡ Some name → name ≡ get_or names s []
name_there names s t name same there = sym (ap (λ (k : ℕ). get_or names k []) (sym same) ∙ get_or_from_slice_get names t name [] there)

-- the lines of a text, as they are appended
abbrev comment : List (List ℕ) → List ℕ
comment fields = ended (comment_text fields)

pub head_is : (names : List (List ℕ)) (blocks : List (List ℕ)) (bits : ℕ) (words : List ℕ) (notes : List LatchNote)
    → ((codes "# hsdec cover\n" ++ flat_map block_line (enumerate_from 0 blocks)) ++ flat_map (pair_line names bits) (zip (pairs_of blocks) words)) ++ flat_map note_line (enumerate_from 0 notes) ≡ cover_comments names blocks bits words notes
head_is names blocks bits words notes =
    let k : List ℕ = codes "# hsdec cover\n" in
    let b : List (List (List ℕ)) = map block_fields (enumerate_from 0 blocks) in
    let p : List (List (List ℕ)) = map (pair_fields names bits) (zip (pairs_of blocks) words) in
    let n : List (List (List ℕ)) = map note_fields (enumerate_from 0 notes) in
    let B : List ℕ = flat_map block_line (enumerate_from 0 blocks) in
    let P : List ℕ = flat_map (pair_line names bits) (zip (pairs_of blocks) words) in
    let N : List ℕ = flat_map note_line (enumerate_from 0 notes) in
    let of_blocks : flat_map comment b ≡ B = flat_map-map comment block_fields (enumerate_from 0 blocks) in
    let of_pairs : flat_map comment p ≡ P = flat_map-map comment (pair_fields names bits) (zip (pairs_of blocks) words) in
    let of_notes : flat_map comment n ≡ N = flat_map-map comment note_fields (enumerate_from 0 notes) in
    let split : flat_map comment ((b ++ p) ++ n) ≡ (flat_map comment b ++ flat_map comment p) ++ flat_map comment n =
    flat_map-append comment (b ++ p) n ∙ ap (λ (t : List ℕ). t ++ flat_map comment n) (flat_map-append comment b p) in
    ap (λ (t : List ℕ). t ++ N) (append_assoc k B P)
    ∙ append_assoc k (B ++ P) N
    ∙ ap (λ (t : List ℕ). k ++ ((t ++ P) ++ N)) (sym of_blocks)
    ∙ ap (λ (t : List ℕ). k ++ ((flat_map comment b ++ t) ++ N)) (sym of_pairs)
    ∙ ap (λ (t : List ℕ). k ++ ((flat_map comment b ++ flat_map comment p) ++ t)) (sym of_notes)
    ∙ ap (λ (t : List ℕ). k ++ t) (sym split)
    ∙ sym (flat_map-map ended comment_text (cover_fields names blocks bits words notes))
