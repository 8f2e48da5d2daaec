-- The lines before the network are comments.
use Rattle.std.proofs.Common.{zero, suc, ◌≡◌, ◌≢◌, ℕ, ◌+◌, ◌<◌, All, List, [], ◌∷◌, ◌++◌, None, codes, get_or, length, map, refl, arith}
use Rattle.std.specs.Int.{bit_at}
use Rattle.std.specs.List.{AllByRecursion, enumerate_from, flat_map, range_with_len, zip}
use Rattle.std.proofs.lemmas.List.Elements.{All-contains, All-head, All-tail}
use Rattle.std.proofs.lemmas.Nat.Bits.{bit_at-lt}
use Rattle.std.proofs.lemmas.Option.{slice_get-get_or}
use Rattle.list_facts.specs.Laws.Everywhere.{each_append, each_weaker}
use Rattle.blif_out.specs.declared.header.Header.{Header}
use Rattle.blif_out.specs.declared.header.LatchNote.{LatchNote}
use Rattle.blif_out.specs.Comments.{AreComments}
use Rattle.blif_out.specs.Head.{bit_text, bits_of, comment_text, note_fields}
use Rattle.blif_out.specs.Laws.Visible.{AreVisible, IsVisible, decimal_visible, head_visible, text_visible}
use Rattle.blif_out.specs.Laws.Words.{name_word}
use Rattle.cover_split.specs.StateCover.{IsBlock, block_at}
use Rattle.cover_split.specs.Expansion.{pairs_of}
use Rattle.cover_texts.specs.Lines.{block_fields, cover_comments, cover_fields, cover_lines, pair_fields}
use Rattle.hs_io.specs.Spelling.{ArePlainFields, IsComment, IsFieldByte, spaced}
use Rattle.cover_split.specs.Laws.Pairs.{pair_has}
use Rattle.state_codes.specs.declared.split.Kind.TheVariants as kinds

-- ---- the states of pairs
pub states_below : (n : ℕ) (blocks : List (List ℕ)) → All (IsBlock n) blocks → All (λ pair. pair.1 < n) (pairs_of blocks)
states_below n blocks lawful k d lt =
    let pair : ℕ × ℕ = get_or (pairs_of blocks) k d in
    let has = pair_has blocks k pair.0 pair.1 (slice_get-get_or (pairs_of blocks) k d lt) in
    All-contains (λ s. s < n) (block_at blocks pair.0) pair.1 (lawful pair.0 [] has.0).states has.1

-- ---- fields
digit_visible : (d : ℕ) → d < 10 → IsFieldByte (48 + d)
digit_visible d small = record { low = omega arith; high = omega (arith, small); no_comment = λ e. absurd (omega (arith, e)) }

some_bits_visible : (word : ℕ) (places : List ℕ) → IsVisible (map (λ i. 48 + bit_at word i) places)
some_bits_visible word [] = tt
some_bits_visible word (i ∷ places) = (digit_visible (bit_at word i) (omega (arith, bit_at-lt word i)), some_bits_visible word places)

bit_text_visible : (bits : List ℕ) → IsVisible bits → IsVisible (bit_text bits)
bit_text_visible [] p = (name_word (codes "-") (omega arith) refl).field.visible
bit_text_visible (bit ∷ bits) p = p

name_visible : (names : List (List ℕ)) (s : ℕ) → ArePlainFields names → s < length names → IsVisible (get_or names s [])
name_visible [] s plain lt = absurd (omega (arith, lt))
name_visible (name ∷ names) zero (p, ps) lt = p.visible
name_visible (name ∷ names) (suc s) (p, ps) lt = name_visible names s ps (omega (arith, lt))

blocks_visible : (blocks : List (ℕ × List ℕ)) → AllByRecursion AreVisible (map block_fields blocks)
blocks_visible [] = tt
blocks_visible ((number, states) ∷ blocks) =
    (((name_word (codes "block") (omega arith) refl).field.visible, (decimal_visible number, (text_visible states, tt))), blocks_visible blocks)

pairs_visible : (names : List (List ℕ)) (bits : ℕ) (pairs : List (ℕ × ℕ)) (words : List ℕ) → ArePlainFields names → All (λ pair. pair.1 < length names) pairs → AllByRecursion AreVisible (map (pair_fields names bits) (zip pairs words))
pairs_visible names bits [] words plain below = tt
pairs_visible names bits (pair ∷ pairs) [] plain below = tt
pairs_visible names bits ((j, s) ∷ pairs) (word ∷ words) plain below =
    let P : ℕ × ℕ → Type 0 = λ pair. pair.1 < length names in (
      (
        (name_word (codes "code") (omega arith) refl).field.visible,
        (name_visible names s plain (All-head P (j, s) pairs below), (decimal_visible j, (bit_text_visible (bits_of bits word) (some_bits_visible word (range_with_len 0 bits)), tt))),
      ),
      pairs_visible names bits pairs words plain (All-tail P (j, s) pairs below),
    )

notes_visible : (notes : List LatchNote) → AllByRecursion AreVisible (map note_fields (enumerate_from 0 notes))
notes_visible notes =
    let H : Header = record { kind = kinds.Code; classes = None; parts = []; states = []; words = []; latches = notes } in
    (head_visible H tt).1

within_line : (fields : List (List ℕ)) → AreVisible fields → AllByRecursion (λ b. b ≢ 10) (flat_map spaced fields)
within_line [] p = tt
within_line (field ∷ fields) (p, ps) =
    (λ e. absurd (omega (arith, e)), each_append (λ b. b ≢ 10) field (flat_map spaced fields) (each_weaker IsFieldByte (λ b. b ≢ 10) (λ b h e. absurd (omega (arith, h.low, e))) field p) (within_line fields ps))

comments_of : (lines : List (List (List ℕ))) → AllByRecursion AreVisible lines → AllByRecursion IsComment (map comment_text lines)
comments_of [] p = tt
comments_of (fields ∷ lines) (p, ps) = ((refl, within_line fields p), comments_of lines ps)

module _ (names : List (List ℕ)) (blocks : List (List ℕ)) (bits : ℕ) (words : List ℕ) (notes : List LatchNote) (plain : ArePlainFields names) (below : All (λ pair. pair.1 < length names) (pairs_of blocks)) where
  cover_are_comments : AllByRecursion IsComment (cover_lines names blocks bits words notes)
  cover_are_comments =
      comments_of (cover_fields names blocks bits words notes) (
        ((name_word (codes "hsdec") (omega arith) refl).field.visible, ((name_word (codes "cover") (omega arith) refl).field.visible, tt)),
        each_append AreVisible (map block_fields (enumerate_from 0 blocks) ++ map (pair_fields names bits) (zip (pairs_of blocks) words)) (map note_fields (enumerate_from 0 notes))
            (each_append AreVisible (map block_fields (enumerate_from 0 blocks)) (map (pair_fields names bits) (zip (pairs_of blocks) words)) (blocks_visible (enumerate_from 0 blocks)) (pairs_visible names bits (pairs_of blocks) words plain below))
            (notes_visible notes),
      )

  pub are_comments : AreComments (cover_comments names blocks bits words notes)
  are_comments = (cover_lines names blocks bits words notes, cover_are_comments, refl)
