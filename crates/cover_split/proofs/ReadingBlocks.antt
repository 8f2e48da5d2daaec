-- How blocks are read from a text, one after another.
use Rattle.std.proofs.Common.{◌≡◌, ℕ, ◌+◌, ◌<◌, ◌≤◌, ◌⊎◌, ◌==◌, List, [], ◌∷◌, ◌++◌, All, Some, length, get_or, map, slice_get, sum_by, refl, sym, ap, ◌∙◌, subst, inl, inr, arith}
use Rattle.std.proofs.lemmas.Bool.{cases_Bool, cases_lt}
use Rattle.std.proofs.lemmas.List.{ext_get_or, get_or_append_left, get_or_push, get_or-map, length-map, length_push}
use Rattle.std.proofs.lemmas.List.Elements.{All-get_or, All-nil, All-push}
use Rattle.std.proofs.lemmas.List.Splits.{length-slice_split, slice_split-cons_no, slice_split-cons_yes}
use Rattle.std.proofs.lemmas.List.Sums.{sum_by-cons}
use Rattle.std.proofs.lemmas.Option.{get_or_from_slice_get, same_Some, slice_get-map, slice_get_read}
use Rattle.std.specs.Fmt.{decimal}
use Rattle.std.specs.List.{onto_first, slice_split}
use Rattle.std.specs.Option.{option_map}
use Rattle.cover_split.specs.StateCover.{IsBlock, places_of}
use Rattle.cover_split.specs.Inner.Pieces.{IsBlockFault, IsBlockText, IsFirstBadPiece}
use Rattle.partition.specs.Text.{pieces_of}
use Rattle.cover_split.specs.Refusal.{CoverFault, IsFirstBad, SpellsBlocks}
use Rattle.cover_split.specs.declared.state_cover.CoverFail.{CoverFail}
use Rattle.cover_split.specs.declared.state_cover.CoverFail.TheVariants.{BadText, Contained, Missing, TooMany, Trivial, NoMemory}
use Rattle.cover_split.specs.Text.{pieces_by_block, Spells}
use Rattle.cover_split.proofs.Reading.{block_pieces}

-- the parts between slashes
abbrev pub parts_of : List ℕ → List (List ℕ)
parts_of text = slice_split (λ byte. byte == 47) text

-- the first parts are the texts of these blocks
pub record IsReadingBlocks (n : ℕ) (text : List ℕ) (blocks : List (List ℕ)) : Type 0 where
  pub lawful : All (IsBlock n) blocks
  pub spelled : (k : ℕ) → k < length blocks → slice_get (pieces_by_block text) k ≡ Some (map decimal (get_or blocks k []))

pub no_blocks : (n : ℕ) (text : List ℕ) → IsReadingBlocks n text []
no_blocks n text = record { lawful = All-nil (IsBlock n); spelled = λ k within. absurd (omega arith) }

-- the pieces of the part at a place
pieces_there : (text : List ℕ) (k : ℕ) (part : List ℕ) → (k < length (parts_of text)) × (part ≡ get_or (parts_of text) k part) → slice_get (pieces_by_block text) k ≡ Some (pieces_of part)
pieces_there text k part turn =
    slice_get-map pieces_of (parts_of text) k ∙ ap (option_map pieces_of) (slice_get_read (parts_of text) (length (parts_of text)) k part refl turn.0 turn.1)

module _ (n : ℕ) (text : List ℕ) (blocks : List (List ℕ)) (part : List ℕ) (so_far : IsReadingBlocks n text blocks)
    (turn : (length blocks < length (parts_of text)) × (part ≡ get_or (parts_of text) (length blocks) part)) where
  -- one more
  pub blocks_more : (block : List ℕ) (new : List (List ℕ)) → IsBlockText n part block → new ≡ blocks ++ block ∷ [] → IsReadingBlocks n text new
  blocks_more block new is added = subst (IsReadingBlocks n text) (sym added) record {
    lawful = All-push (IsBlock n) blocks block so_far.lawful is.lawful;
    spelled = spelled;
  } where
    spelled : (k : ℕ) → k < length (blocks ++ block ∷ []) → slice_get (pieces_by_block text) k ≡ Some (map decimal (get_or (blocks ++ block ∷ []) k []))
    spelled k within =
        elim (cases_lt k (length blocks)) [
          | inl old ↦ so_far.spelled k old ∙ ap (λ (b : List ℕ). Some (map decimal b)) (sym (get_or_append_left blocks (block ∷ []) [] k old))
          | inr last ↦
              let here : length blocks ≡ k = omega (arith, length_push blocks block) in
              subst (λ (i : ℕ). slice_get (pieces_by_block text) i ≡ Some (map decimal block)) here (pieces_there text (length blocks) part turn ∙ ap Some is.spelled)
              ∙ ap (λ (b : List ℕ). Some (map decimal b)) (sym (get_or_push blocks block [] k here))
        ]

  -- the part is no block
  pub blocks_bad : (place : ℕ) → n ≤ 256 → IsFirstBadPiece n (pieces_of part) place → IsFirstBad n text (length blocks) place
  blocks_bad place few fault = record {
    pieces = pieces_of part;
    at_block = pieces_there text (length blocks) part turn;
    within = fault.within;
    bad = fault.bad;
    before = fault.before;
    blocks_before = λ earlier others before there.
        let same : others ≡ map decimal (get_or blocks earlier []) = same_Some others (map decimal (get_or blocks earlier [])) (sym there ∙ so_far.spelled earlier before) in
        block_pieces n others (get_or blocks earlier []) few (All-get_or (IsBlock n) blocks earlier [] before so_far.lawful) same;
  }

  -- so it is a fault of the text
  pub blocks_fault : (number : ℕ) (fail : CoverFail) → n ≤ 256 → number ≡ length blocks → IsBlockFault n part number fail → (fail ≡ NoMemory) ⊎ CoverFault n text fail
  blocks_fault number (BadText block place) few is (same, fault) =
      inr (subst (λ (k : ℕ). IsFirstBad n text k place) (sym (same ∙ is)) (blocks_bad place few fault))
  blocks_fault number (Contained a b) few is fault = absurd fault
  blocks_fault number (Missing s) few is fault = absurd fault
  blocks_fault number (TooMany found) few is fault = absurd fault
  blocks_fault number Trivial few is fault = absurd fault
  blocks_fault number NoMemory few is fault = inl refl

-- all parts are read
pub blocks_whole : (n : ℕ) (text : List ℕ) (blocks : List (List ℕ)) → IsReadingBlocks n text blocks → length blocks ≡ length (parts_of text) → SpellsBlocks n text blocks
blocks_whole n text blocks so_far whole = record {
  lawful = so_far.lawful;
  spelled = ext_get_or [] (pieces_by_block text) (map (map decimal) blocks) (length-map (parts_of text) pieces_of ∙ sym whole ∙ sym (length-map blocks (map decimal)))
      (λ k within.
      let inside : k < length blocks = omega (arith, length-map (parts_of text) pieces_of) in
      get_or_from_slice_get (pieces_by_block text) k (map decimal (get_or blocks k [])) [] (so_far.spelled k inside)
      ∙ sym (get_or-map (map decimal) blocks k [] [] inside));
}

-- ---- there are at most as many pieces as bytes and one more
one_byte_more : (x : ℕ) (part : List ℕ) → length (pieces_of (x ∷ part)) ≤ length (pieces_of part) + 1
one_byte_more x part =
    elim (cases_Bool (x == 44)) [
      | inl cut ↦ omega (arith, ap length (slice_split-cons_yes (λ byte. byte == 44) x part cut))
      | inr kept ↦ omega (arith, ap length (slice_split-cons_no (λ byte. byte == 44) x part kept), onto (pieces_of part) (omega (arith, length-slice_split (λ byte. byte == 44) part)))
    ]
  where
    onto : (pieces : List (List ℕ)) → 0 < length pieces → length (onto_first x pieces) ≡ length pieces
    onto [] some = absurd (omega arith)
    onto (piece ∷ pieces) some = refl

abbrev total : List (List ℕ) → ℕ
total parts = sum_by length (map pieces_of parts)

onto_total : (x : ℕ) (parts : List (List ℕ)) → 0 < length parts → total (onto_first x parts) ≤ total parts + 1
onto_total x [] some = absurd (omega arith)
onto_total x (part ∷ parts) some =
    omega (arith, sum_by-cons length (pieces_of (x ∷ part)) (map pieces_of parts), sum_by-cons length (pieces_of part) (map pieces_of parts), one_byte_more x part)

pub pieces_total : (text : List ℕ) → sum_by length (pieces_by_block text) ≤ length text + 1
pieces_total [] = omega arith
pieces_total (x ∷ text) =
    elim (cases_Bool (x == 47)) [
      | inl cut ↦
          omega (arith, pieces_total text, ap total (slice_split-cons_yes (λ byte. byte == 47) x text cut), sum_by-cons length (pieces_of []) (pieces_by_block text))
      | inr kept ↦
          omega (
            arith,
            pieces_total text,
            ap total (slice_split-cons_no (λ byte. byte == 47) x text kept),
            onto_total x (parts_of text) (omega (arith, length-slice_split (λ byte. byte == 47) text)),
          )
    ]

same_places : (blocks : List (List ℕ)) → sum_by length (map (map decimal) blocks) ≡ places_of blocks
same_places [] = refl
same_places (block ∷ blocks) =
    sum_by-cons length (map decimal block) (map (map decimal) blocks) ∙ ap (λ (k : ℕ). k + sum_by length (map (map decimal) blocks)) (length-map block decimal)
    ∙ ap (λ (k : ℕ). length block + k) (same_places blocks) ∙ sym (sum_by-cons length block blocks)

pub places_short : (text : List ℕ) (blocks : List (List ℕ)) → Spells text blocks → places_of blocks ≤ length text + 1
places_short text blocks spelled = omega (arith, pieces_total text, ap (λ (all : List (List (List ℕ))). sum_by length all) spelled, same_places blocks)
