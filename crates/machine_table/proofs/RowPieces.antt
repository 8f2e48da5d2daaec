-- Rows that say all, as pieces.
use Rattle.std.proofs.Common.{◌≡◌, ℕ, ◌/◌, ◌%◌, ◌<◌, ◌≤◌, ◌^◌, true, Some, inl, inr, sym, ◌∙◌, subst, arith, ap}
use Rattle.std.proofs.lemmas.Bool.{cases_Bool, cases_lt}
use Rattle.std.proofs.lemmas.Nat.{div-add-mod', mod_below, pow_pos}
use Rattle.std.proofs.lemmas.Nat.Bits.{bit_at_above, bit_at_cat_low, same_from_bits}
use Rattle.std.specs.Int.{bit_at}
use Rattle.cubes.specs.declared.cube.Cube.{Cube}
use Rattle.cubes.specs.Cube.{HoldsNumber}
use Rattle.cubes.specs.Symbol.{bit, symbol_of, lowest_bits}
use Rattle.cubes.specs.Laws.Bits.{zero_from_bit}
use Rattle.kiss_file.specs.declared.file.KissFile.{KissFile}
use Rattle.kiss_file.specs.declared.file.KissRow.{KissRow}
use Rattle.kiss_file.specs.Machine.{Conflicting, IsRowAt, output_bit}
use Rattle.kiss_file.specs.Laws.Machine.{next_said, output_bit_said}
use Rattle.machine_table.specs.declared.pieces.Piece.{Piece}
use Rattle.machine_table.specs.Pieces.{IsPiece}
use Rattle.state_pairs.specs.RowLabels.{IsOfState}
use Rattle.machine_table.specs.Inner.OpenSymbol.{SaysAll}
use Rattle.state_pairs.specs.Table.{IsTable}
use Rattle.state_pairs.specs.Laws.Asking.{lawful_row, number_of_row}
use Rattle.state_rows.specs.Laws.Outputs.{given_value}
use Rattle.machine_table.specs.Laws.OutputWords.{same_map}
use Rattle.state_pairs.specs.Laws.Sought.{at_from_held}

-- a number whose bits are all at low places is small
pub below_from_bits : (n k : ℕ) → ((b : ℕ) → bit n b ≡ true → b < k) → n < 2 ^ k
below_from_bits n k low = subst (λ (m : ℕ). m < 2 ^ k) (sym same) small where
  small : n % 2 ^ k < 2 ^ k
  small = mod_below n (2 ^ k) (pow_pos k)

  none_above : (i : ℕ) → k ≤ i → bit_at n i ≡ 0
  none_above i above =
      elim (cases_Bool (bit n i)) [
        | inl one ↦ let under : i < k = low i one in absurd (omega arith)
        | inr none ↦ zero_from_bit n i none
      ]

  same : n ≡ n % 2 ^ k
  same =
      same_from_bits n (n % 2 ^ k)
      (λ i.
      elim (cases_lt i k) [
        | inl under ↦ ap (λ (m : ℕ). bit_at m i) (sym (div-add-mod' n (2 ^ k))) ∙ bit_at_cat_low (n / 2 ^ k) k (n % 2 ^ k) i under
        | inr above ↦ none_above i above ∙ sym (bit_at_above (n % 2 ^ k) k i small above)
      ])

pub row_is_piece : (F : KissFile) → IsTable F → (Conflicting F → ⊥) → (s : ℕ) → SaysAll F s → (row : KissRow) → IsOfState F s row → (piece : Piece)
    → piece.cube ≡ row.cube → row.to ≡ Some piece.next → piece.outputs ≡ row.value → IsPiece F s piece
row_is_piece F table no_conflict s all row of_state piece cube names word =
    let lawful = lawful_row F table of_state.0.0 row (number_of_row F row of_state.0) in
    let says = all row of_state.0 of_state.1 in
    let at : (x : ℕ) → HoldsNumber piece.cube x → IsRowAt F s (symbol_of F.inputs x) row =
    λ x held. at_from_held F table s x row of_state (subst (λ (c : Cube). HoldsNumber c x) cube held) in
    record {
      width = ap (λ (c : Cube). c.width) cube ∙ lawful.width;
      next_state = λ x within held. next_said F s (symbol_of F.inputs x) no_conflict row piece.next (at x held) names;
      outputs = λ x within held.
          same_map (output_bit F s (symbol_of F.inputs x)) (bit row.value) F.outputs
          (λ b inside. output_bit_said F s (symbol_of F.inputs x) no_conflict row b (bit row.value b) (at x held) (given_value row b (says.1 b inside)))
          ∙ sym (ap (lowest_bits F.outputs) word);
      no_more = subst (λ (n : ℕ). n < 2 ^ F.outputs) (sym word) (below_from_bits row.value F.outputs (λ b one. lawful.care b (lawful.value b one)));
    }
