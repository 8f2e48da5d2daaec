-- All outputs of states whose rows each say all, by the words that rows give.
use Rattle.std.proofs.Common.{◌≡◌, ℕ, ◌-◌, ◌<◌, ◌^◌, ◌⊎◌, Bool, true, false, cond, eqb, Option, None, Some, IsSome, is_some, length, inl, inr, sym, ◌∙◌, subst, refl, arith, ap}
use Rattle.std.proofs.lemmas.Bool.{cases_Bool, cases_lt, eq-eqb, eqb-true, true≢false}
use Rattle.std.proofs.lemmas.Nat.{pow_pos}
use Rattle.std.proofs.lemmas.Nat.Bits.{bit_at_above, bit_at_ones, same_from_bits}
use Rattle.cubes.specs.Symbol.{bit, symbol_of, lowest_bits}
use Rattle.cubes.specs.Laws.Bits.{bit-zero, one_from_bit, same_digits, zero_from_bit}
use Rattle.cubes.specs.Laws.Numbers.{length-symbol_of}
use Rattle.kiss_file.specs.declared.file.KissFile.{KissFile}
use Rattle.kiss_file.specs.declared.file.KissRow.{KissRow}
use Rattle.kiss_file.specs.Machine.{Conflicting, IsRowAt, Specified, given_bit, out, output_bit}
use Rattle.kiss_file.specs.Laws.Machine.{output_bit_not_said, output_bit_said}
use Rattle.state_pairs.specs.RowLabels.{HaveOneLabel, IsLabelAt, IsOpenAt}
use Rattle.machine_table.specs.Inner.OpenSymbol.{SaysAll}
use Rattle.state_pairs.specs.Pairs.{AgreeAt}
use Rattle.state_pairs.specs.Table.{IsTable}
use Rattle.state_pairs.specs.Laws.Asking.{lawful_row, number_of_row}
use Rattle.state_pairs.specs.Laws.Labels.{AreLabels, label_or_open}
use Rattle.state_rows.specs.Laws.Outputs.{given_in_all, given_value}
use Rattle.machine_table.proofs.OutputLabels.{no_label}
use Rattle.machine_table.specs.Laws.OutputWords.{same_map, same_values}
use Rattle.machine_table.proofs.RowPieces.{below_from_bits}

-- the word of a row that gives each output
abbrev pub word_label : ℕ → KissRow → Option ℕ
word_label all row = cond (eqb row.care all) (Some row.value) None

labelled : (b : Bool) (word v : ℕ) → cond b (Some word) None ≡ Some v → (b ≡ true) × (word ≡ v)
labelled true word v is = (refl, (cc))
labelled false word v is = absurd (cc)

-- small numbers of the same outputs are equal
same_word : (n v w : ℕ) → v < 2 ^ n → w < 2 ^ n → lowest_bits n v ≡ lowest_bits n w → v ≡ w
same_word n v w first second same =
    same_from_bits v w
    (λ i.
    elim (cases_lt i n) [
      | inl under ↦ same_digits v w i i (same_values (bit v) (bit w) n same i under)
      | inr above ↦ bit_at_above v n i first above ∙ sym (bit_at_above w n i second above)
    ])

module _ (F : KissFile) (table : IsTable F) (no_conflict : Conflicting F → ⊥) (all : ℕ) (whole : all ≡ 2 ^ F.outputs - 1) where
  -- the outputs that a word says are the machine's
  abbrev pub IsWordAt : ℕ → ℕ → ℕ → Type 0
  IsWordAt s x v = (lowest_bits F.outputs v ≡ out F s (symbol_of F.inputs x)) × (v < 2 ^ F.outputs)

  pub said_word : (s x v : ℕ) → IsLabelAt (word_label all) F s x v → IsWordAt s x v
  said_word s x v (row, at, says) =
      let parts = labelled (eqb row.care all) row.value v says in
      let lawful = lawful_row F table at.among.0 row (number_of_row F row at.among) in
      subst (IsWordAt s x) parts.1 (
        same_map (bit row.value) (output_bit F s (symbol_of F.inputs x)) F.outputs
            (λ b inside.
            sym (output_bit_said F s (symbol_of F.inputs x) no_conflict row b (bit row.value b) at
            (given_value row b (given_in_all row F.outputs b (eqb-true row.care all parts.0 ∙ whole) inside)))),
        below_from_bits row.value F.outputs (λ b one. lawful.care b (lawful.value b one)),
      )

  pub one_word_said : HaveOneLabel (word_label all) F
  one_word_said s x v w first second =
      let here = said_word s x v first in
      let also = said_word s x w second in
      same_word F.outputs v w here.1 also.1 (here.0 ∙ sym also.0)

  -- the word at a symbol: the one that a row says, and else 0
  abbrev word_of_either : (s x : ℕ) → ((v : ℕ) × IsLabelAt (word_label all) F s x v) ⊎ IsOpenAt (word_label all) F s x → ℕ
  word_of_either s x (inl there) = there.0
  word_of_either s x (inr silent) = 0

  abbrev pub word_at : ℕ → ℕ → ℕ
  word_at s x = word_of_either s x (label_or_open F table (word_label all) s x)

  said_not_open : (s x v : ℕ) → IsLabelAt (word_label all) F s x v → IsOpenAt (word_label all) F s x → ⊥
  said_not_open s x v (row, at, says) silent = true≢false (sym (ap is_some says) ∙ silent row at)

  word_said : (s x v : ℕ) → IsLabelAt (word_label all) F s x v
      → (either : ((v : ℕ) × IsLabelAt (word_label all) F s x v) ⊎ IsOpenAt (word_label all) F s x) → word_of_either s x either ≡ v
  word_said s x v says (inl there) = one_word_said s x there.0 v there.1 says
  word_said s x v says (inr silent) = absurd (said_not_open s x v says silent)

  word_open : (s x : ℕ) → IsOpenAt (word_label all) F s x
      → (either : ((v : ℕ) × IsLabelAt (word_label all) F s x v) ⊎ IsOpenAt (word_label all) F s x) → word_of_either s x either ≡ 0
  word_open s x silent (inl there) = absurd (said_not_open s x there.0 there.1 silent)
  word_open s x silent (inr also) = refl

  pub word_labels : AreLabels F (word_label all) no_label word_at
  word_labels = record {
    when_said = λ s x v says. word_said s x v says (label_or_open F table (word_label all) s x);
    when_open = λ s x silent. word_open s x silent (label_or_open F table (word_label all) s x);
  }

  module _ (s : ℕ) (says : SaysAll F s) where
    -- each row of the state gives each output, and none besides
    cares_for_all : (x : ℕ) (row : KissRow) → IsRowAt F s (symbol_of F.inputs x) row → row.care ≡ all
    cares_for_all x row at =
        let lawful = lawful_row F table at.among.0 row (number_of_row F row at.among) in
        let ones : 2 ^ F.outputs - 1 < 2 ^ F.outputs = omega (arith, pow_pos F.outputs) in
        same_from_bits row.care (2 ^ F.outputs - 1)
        (λ i.
        elim (cases_lt i F.outputs) [
          | inl under ↦ one_from_bit row.care i (cares row i ((says row at.among at.from).1 i under)) ∙ sym (bit_at_ones F.outputs i under)
          | inr above ↦
              elim (cases_Bool (bit row.care i)) [
                | inl one ↦ let under : i < F.outputs = lawful.care i one in absurd (omega arith)
                | inr none ↦ zero_from_bit row.care i none ∙ sym (bit_at_above (2 ^ F.outputs - 1) F.outputs i ones above)
              ]
        ])
        ∙ sym whole
      where
        cares : (row : KissRow) (i : ℕ) → IsSome (given_bit i row) → bit row.care i ≡ true
        cares row i some =
            elim (cases_Bool (bit row.care i)) [
              | inl one ↦ one
              | inr none ↦ let gone : given_bit i row ≡ None = rw none refl in absurd (true≢false (sym some ∙ ap is_some gone))
            ]

    not_open : (x : ℕ) → IsOpenAt (word_label all) F s x → (row : KissRow) → IsRowAt F s (symbol_of F.inputs x) row → ⊥
    not_open x silent row at =
        let is : word_label all row ≡ Some row.value = rw (eq-eqb row.care all (cares_for_all x row at)) refl in
        true≢false (sym (ap is_some is) ∙ silent row at)

    word_is : (x : ℕ) → (either : ((v : ℕ) × IsLabelAt (word_label all) F s x v) ⊎ IsOpenAt (word_label all) F s x) → IsWordAt s x (word_of_either s x either)
    word_is x (inl there) = said_word s x there.0 there.1
    word_is x (inr silent) = (
      same_map (bit 0) (output_bit F s (symbol_of F.inputs x)) F.outputs
          (λ b inside. bit-zero b ∙ sym (output_bit_not_said F s (symbol_of F.inputs x) b (λ row at. absurd (not_open x silent row at)))),
      pow_pos F.outputs,
    )

    pub word_is_out : (x : ℕ) → IsWordAt s x (word_at s x)
    word_is_out x = word_is x (label_or_open F table (word_label all) s x)

    pub word_not_open : Specified F → s < length F.states → (x : ℕ) → IsOpenAt (word_label all) F s x → ⊥
    word_not_open specified within x silent =
        let there = (specified s (symbol_of F.inputs x) within (length-symbol_of F.inputs x)).next in
        not_open x silent there.0 there.1

  module _ (s t : ℕ) (first : SaysAll F s) (second : SaysAll F t) (x : ℕ) where
    pub words_alike : word_at s x ≡ word_at t x → AgreeAt F s t x
    words_alike same = sym (word_is_out s first x).0 ∙ ap (lowest_bits F.outputs) same ∙ (word_is_out t second x).0

    pub words_equal : AgreeAt F s t x → word_at s x ≡ word_at t x
    words_equal agree =
        let here = word_is_out s first x in
        let there = word_is_out t second x in
        same_word F.outputs (word_at s x) (word_at t x) here.1 there.1 (here.0 ∙ agree ∙ sym there.0)
