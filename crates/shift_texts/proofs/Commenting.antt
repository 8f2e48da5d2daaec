-- The lines before the network of a register are comments.
use Rattle.std.proofs.Common.{◌≢◌, ℕ, List, [], ◌∷◌, arith, codes, map, refl}
use Rattle.std.specs.Fmt.{decimal}
use Rattle.std.specs.List.{AllByRecursion, flat_map}
use Rattle.list_facts.specs.Laws.Everywhere.{each_append, each_weaker}
use Rattle.blif_out.specs.Comments.{AreComments}
use Rattle.blif_out.specs.Head.{comment_text}
use Rattle.blif_out.specs.Laws.Visible.{AreVisible, decimal_visible}
use Rattle.blif_out.specs.Laws.Words.{name_word}
use Rattle.hs_io.specs.Spelling.{IsComment, IsFieldByte, spaced}
use Rattle.shift_texts.specs.ShiftText.{shift_comments, shift_fields}

-- visible fields stand in one line
within_line : (fields : List (List ℕ)) → AreVisible fields → AllByRecursion (λ b. b ≢ 10) (flat_map spaced fields)
within_line [] p = tt
within_line (field ∷ fields) (p, ps) =
    (λ e. absurd (omega (arith, e)), each_append (λ b. b ≢ 10) field (flat_map spaced fields) (each_weaker IsFieldByte (λ b. b ≢ 10) (λ b h e. absurd (omega (arith, h.low, e))) field p) (within_line fields ps))

hsdec_fields : AreVisible (codes "hsdec" ∷ codes "shift" ∷ [])
hsdec_fields = ((name_word (codes "hsdec") (omega arith) refl).field.visible, ((name_word (codes "shift") (omega arith) refl).field.visible, tt))

order_fields : (k : ℕ) → AreVisible (codes "order" ∷ decimal k ∷ [])
order_fields k = ((name_word (codes "order") (omega arith) refl).field.visible, (decimal_visible k, tt))

lines_are_comments : (k : ℕ) → AllByRecursion IsComment (map comment_text (shift_fields k))
lines_are_comments k = (
  (refl, within_line (codes "hsdec" ∷ codes "shift" ∷ []) hsdec_fields),
  ((refl, within_line (codes "order" ∷ decimal k ∷ []) (order_fields k)), tt),
)

pub are_comments : (k : ℕ) → AreComments (shift_comments k)
are_comments k = (map comment_text (shift_fields k), lines_are_comments k, refl)
