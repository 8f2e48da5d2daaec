use Rattle.std.proofs.Common.{◌≡◌, ◌+◌, ◌++◌, ◌∷◌, [], ◌∙◌, ℕ, List, ap, map, sym, subst, arith}
use Rattle.std.proofs.lemmas.List.FromFn.{map-range_with_len_more}
use Rattle.std.specs.List.{range_with_len}
use Rattle.kiss_file.specs.declared.file.KissFile.{KissFile}
use Rattle.machine_table.specs.Pieces.{IsHeldByPiece}
use Rattle.machine_table.specs.declared.pieces.Piece.{Piece}
use Rattle.io_pairs.specs.Outputs.{output_word}
use Rattle.io_pairs.proofs.output_words.words_of.Goals as goal

-- one word more
words_more : (F : KissFile) (s x word : ℕ) (words pushed : List ℕ) → pushed ≡ words ++ word ∷ [] → word ≡ output_word F s x → words ≡ map (output_word F s) (range_with_len 0 x)
    → pushed ≡ map (output_word F s) (range_with_len 0 (x + 1))
words_more F s x word words pushed put here so_far =
    put ∙ ap (λ (w : ℕ). words ++ w ∷ []) here ∙ ap (λ (ws : List ℕ). ws ++ output_word F s x ∷ []) so_far ∙ sym (map-range_with_len_more (output_word F s) 0 x x (omega arith))

pub word_at-requires-clause-held : goal.word_at-requires-clause-held
word_at-requires-clause-held c =
    subst (λ (pieces : List Piece). IsHeldByPiece pieces c.loop-x.x) (sym c.as_slice.ensures.value) (c.in_ok-pieces.ensures.each c.loop-x.x (omega arith))

pub loop-x-preserved : goal.loop-x-preserved
loop-x-preserved c =
    words_more c.args.m.now c.args.s c.loop-x.x c.word_at.result c.loop-x.words.items c.push.new.self.items c.in_ok-push.ensures.items c.word_at.ensures c.loop-x.invariant
