-- Outputs gathered from the rows that hold a symbol.
use Rattle.std.proofs.Common.{◌≡◌, ℕ, ◌-◌, ◌<◌, ◌^◌, ◌||◌, Bool, true, false, None, Some, bit_or, length, sym, ◌∙◌, refl, ap, inl, inr}
use Rattle.std.proofs.lemmas.Bool.{cases_Bool, false≢true}
use Rattle.std.proofs.lemmas.Nat.Bits.{bit_at_ones}
use Rattle.std.specs.Int.{bit_at}
use Rattle.cubes.specs.Symbol.{bit, symbol_of, lowest_bits}
use Rattle.cubes.specs.Laws.Bits.{bit-or, bit-zero, bit_from_one}
use Rattle.kiss_file.specs.declared.file.KissFile.{KissFile}
use Rattle.kiss_file.specs.declared.file.KissRow.{KissRow}
use Rattle.kiss_file.specs.LawfulFile.{IsLawfulRow}
use Rattle.kiss_file.specs.Machine.{Conflicting, IsRowAt, given_bit, out, output_bit}
use Rattle.kiss_file.specs.Laws.Machine.{output_bit_said}
use Rattle.machine_table.specs.Laws.OutputWords.{same_map}
use Rattle.machine_table.specs.Inner.Gathered.{IsGathered}
use Rattle.machine_table.proofs.RowPieces.{below_from_bits}

or_same : (o : Bool) → (o || o) ≡ o
or_same true = refl
or_same false = refl

or_none : (o : Bool) → (o || false) ≡ o
or_none true = refl
or_none false = refl

joined : (c w r v o : Bool) → (c ≡ true → w ≡ o) → (c ≡ false → w ≡ false) → (r ≡ true → v ≡ o) → (r ≡ false → v ≡ false) → (c || r) ≡ true → (w || v) ≡ o
joined true w true v o first none second lack some = rw (first refl, second refl) (or_same o)
joined true w false v o first none second lack some = rw (first refl, lack refl) (or_none o)
joined false w true v o first none second lack some = rw (none refl, second refl) refl
joined false w false v o first none second lack some = absurd (false≢true some)

neither : (c r : Bool) → (c || r) ≡ false → (c ≡ false) × (r ≡ false)
neither false false none = (refl, refl)
neither true r none = absurd (false≢true (sym none))
neither false true none = absurd (false≢true (sym none))

-- a row gives the bit of its value where it cares
given_where : (row : KissRow) (b : ℕ) → bit row.care b ≡ true → given_bit b row ≡ Some (bit row.value b)
given_where row b cares = rw cares refl

pub none_where : (row : KissRow) (b : ℕ) → bit row.care b ≡ false → given_bit b row ≡ None
none_where row b not_there = rw not_there refl

-- what is not among either is in neither
pub not_in_either : (m n b : ℕ) → bit (bit_or m n) b ≡ false → (bit m b ≡ false) × (bit n b ≡ false)
not_in_either m n b none = neither (bit m b) (bit n b) (sym (bit-or m n b) ∙ none)

module _ (F : KissFile) (s x : ℕ) where
  pub none_gathered : IsGathered F s x 0 0
  none_gathered = record {
    given = λ b one. absurd (false≢true (sym (bit-zero b) ∙ one));
    rest = λ b none. bit-zero b;
    within = λ b one. absurd (false≢true (sym (bit-zero b) ∙ one));
  }

  pub gathered_more : (Conflicting F → ⊥) → (row : KissRow) → IsLawfulRow F.inputs F.outputs (length F.states) row → IsRowAt F s (symbol_of F.inputs x) row
      → (known word : ℕ) → IsGathered F s x known word → IsGathered F s x (bit_or known row.care) (bit_or word row.value)
  gathered_more no_conflict row lawful at known word so_far = record {
    given = λ b one. bit-or word row.value b ∙ joined (bit known b) (bit word b) (bit row.care b) (bit row.value b) (output_bit F s (symbol_of F.inputs x) b)
        (so_far.given b) (so_far.rest b) (said b) (lacking b) (sym (bit-or known row.care b) ∙ one);
    rest = λ b none.
        let both = not_in_either known row.care b none in
        bit-or word row.value b ∙ rw (so_far.rest b both.0, lacking b both.1) refl;
    within = λ b one.
        elim (cases_Bool (bit known b)) [
          | inl before ↦ so_far.within b before
          | inr not_before ↦ lawful.care b (let either : (bit known b || bit row.care b) ≡ true = sym (bit-or known row.care b) ∙ one in rw not_before at either)
        ];
  }
    where
      said : (b : ℕ) → bit row.care b ≡ true → bit row.value b ≡ output_bit F s (symbol_of F.inputs x) b
      said b cares = sym (output_bit_said F s (symbol_of F.inputs x) no_conflict row b (bit row.value b) at (given_where row b cares))

      lacking : (b : ℕ) → bit row.care b ≡ false → bit row.value b ≡ false
      lacking b not_there =
          elim (cases_Bool (bit row.value b)) [
            | inl one ↦ absurd (false≢true (sym not_there ∙ lawful.value b one))
            | inr none ↦ none
          ]

  pub gathered_below : (known word : ℕ) → IsGathered F s x known word → word < 2 ^ F.outputs
  gathered_below known word so_far =
      below_from_bits word F.outputs
      (λ b one.
      elim (cases_Bool (bit known b)) [
        | inl there ↦ so_far.within b there
        | inr not_there ↦ absurd (false≢true (sym (so_far.rest b not_there) ∙ one))
      ])

  -- outputs that are not known are 0
  pub gathered_outputs : (known word : ℕ) → IsGathered F s x known word
      → ((b : ℕ) → b < F.outputs → bit known b ≡ false → output_bit F s (symbol_of F.inputs x) b ≡ false)
      → lowest_bits F.outputs word ≡ out F s (symbol_of F.inputs x)
  gathered_outputs known word so_far zeros =
      same_map (bit word) (output_bit F s (symbol_of F.inputs x)) F.outputs
      (λ b inside.
      elim (cases_Bool (bit known b)) [
        | inl there ↦ so_far.given b there
        | inr not_there ↦ so_far.rest b not_there ∙ sym (zeros b inside not_there)
      ])

  -- none is left where all are known
  pub all_known : (known b : ℕ) → known ≡ 2 ^ F.outputs - 1 → b < F.outputs → bit known b ≡ false → output_bit F s (symbol_of F.inputs x) b ≡ false
  all_known known b all inside none =
      let one : bit known b ≡ true = bit_from_one known b (ap (λ n. bit_at n b) all ∙ bit_at_ones F.outputs b inside) in
      absurd (false≢true (sym none ∙ one))
