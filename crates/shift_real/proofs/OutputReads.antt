-- The latches and the inputs that matter for an output, from classes and from the states after contents.
use Rattle.std.proofs.Common.{◌≡◌, ◌≢◌, ℕ, ◌*◌, ◌^◌, ◌<◌, inl, inr, Bool, false, Some, List, length, map, get_or, slice_get, slice_index, bit_xor, ap, sym, ◌∙◌, subst, arith}
use Rattle.std.specs.Int.{bit_at}
use Rattle.std.proofs.lemmas.Bool.{cases_eq, cases_lt}
use Rattle.std.proofs.lemmas.List.{get_or-map, get_or_default, length-map}
use Rattle.std.proofs.lemmas.List.Elements.{Contains-get_or}
use Rattle.std.proofs.lemmas.Nat.{xor_lt}
use Rattle.std.proofs.lemmas.Nat.Bits.{bit_at-lt, bit_at_xor, bit_at-pow_other, bit_at-pow_same, same_from_bits_below}
use Rattle.std.proofs.lemmas.Option.{slice_get-get_or, slice_get_past}
use Rattle.cubes.specs.Symbol.{bit, number_of, symbol_of, lowest_bits}
use Rattle.cubes.specs.Laws.Bits.{same_bits, same_digits}
use Rattle.cubes.specs.Laws.Numbers.{length-symbol_of, number_below, symbol_of-number_of}
use Rattle.dependence.specs.Inputs.{DifferAlone}
use Rattle.gate_rows.specs.Laws.ReadNumbers.{code_at}
use Rattle.kiss_file.specs.declared.file.KissFile.{KissFile}
use Rattle.kiss_file.specs.Machine.{output_bit}
use Rattle.shift_real.specs.Gates.{InputMatters, LatchMatters}
use Rattle.shift_real.specs.Inner.OutputReads.{FlipMatters, MattersAmong}
use Rattle.shift_real.specs.Inner.Tables.{AreFirsts, IsFirstAlike, IsStateTable, content_of, state_at}
use Rattle.shift_real.specs.Register.{latch_values}
use Rattle.shift_real.proofs.Alike.{one_class, one_first}
use Rattle.shift_real.proofs.ContentWords.{code_length, content_is_word, content_values, numbered, values_length}
use Rattle.shift_real.proofs.Flips.{power_below}
use Rattle.shift_real.proofs.SameReads.{all_or_one}

-- the bits of a number with one of them turned
flipped_bit : (n latch i : ℕ) → i ≢ latch → bit (bit_xor n (2 ^ latch)) i ≡ bit n i
flipped_bit n latch i other =
    same_bits (bit_xor n (2 ^ latch)) n i i (omega (arith, bit_at_xor n (2 ^ latch) i, bit_at-pow_other latch i other, bit_at-lt n i))

flipped_there : (n latch : ℕ) → bit_at (bit_xor n (2 ^ latch)) latch ≢ bit_at n latch
flipped_there n latch same = omega (arith, bit_at_xor n (2 ^ latch) latch, bit_at-pow_same latch, bit_at-lt n latch, same)

-- two lists that differ at one place have that place
pub differ_within : (count a : ℕ) (x y : List Bool) → length x ≡ count → DifferAlone a x y → a < count
differ_within count a x y long differ =
    elim (cases_lt a count) [
      | inl below ↦ below
      | inr beyond ↦ absurd (differ.there (slice_get_past x a (omega (arith, beyond, long)) ∙ sym (slice_get_past y a (omega (arith, beyond, long, differ.lengths)))))
    ]

module _ (F : KissFile) (k b : ℕ) (table firsts classes : List ℕ) (is : IsStateTable F k table) (are : AreFirsts F b (length F.states) firsts) (mapped : classes ≡ map (slice_index firsts) table) where
  pub class_count : length classes ≡ 2 ^ (k * F.inputs)
  class_count = ap length mapped ∙ (length-map table (slice_index firsts) ∙ is.size)

  -- the class of a content
  pub class_at : (number : ℕ) → number < 2 ^ (k * F.inputs) → IsFirstAlike F b (state_at F k number) (slice_index classes number)
  class_at number low =
      let within : number < length table = omega (arith, low, is.size) in
      let state : get_or table number 0 < length F.states = is.within number 0 within in
      let read : slice_index classes number ≡ slice_index firsts (state_at F k number) =
      ap (λ (list : List ℕ). get_or list number 0) mapped
      ∙ (get_or-map (slice_index firsts) table number 0 0 within ∙ ap (slice_index firsts) (is.each number low)) in
      subst (IsFirstAlike F b (state_at F k number)) (sym read) (are.each (state_at F k number) (subst (λ (s : ℕ). s < length F.states) (is.each number low) state))

  -- the first state of the class of a content gives what the state after the content gives
  pub class_value : (number : ℕ) → number < 2 ^ (k * F.inputs) → (x : List Bool) → length x ≡ F.inputs → output_bit F (slice_index classes number) x b ≡ output_bit F (state_at F k number) x b
  class_value number low x long =
      let written : symbol_of F.inputs (number_of x) ≡ x = subst (λ (n : ℕ). symbol_of n (number_of x) ≡ x) long (symbol_of-number_of x) in
      let below : number_of x < 2 ^ F.inputs = subst (λ (n : ℕ). number_of x < 2 ^ n) long (number_below x) in
      let first = class_at number low in
      subst (λ (y : List Bool). output_bit F (slice_index classes number) y b ≡ output_bit F (state_at F k number) y b) written (first.alike (number_of x) below)

  -- contents of two classes give two values at some symbol
  told_apart : (v w : ℕ) → v < 2 ^ (k * F.inputs) → w < 2 ^ (k * F.inputs) → slice_index classes v ≢ slice_index classes w
      → (x : List Bool) × (length x ≡ F.inputs) × (output_bit F (state_at F k v) x b ≢ output_bit F (state_at F k w) x b)
  told_apart v w low_v low_w apart =
      elim (all_or_one (λ x. output_bit F (state_at F k v) (symbol_of F.inputs x) b) (λ x. output_bit F (state_at F k w) (symbol_of F.inputs x) b) (2 ^ F.inputs)) [
        | inl alike ↦ absurd (apart (one_first F b (state_at F k v) (state_at F k w) (slice_index classes v) (slice_index classes w) (class_at v low_v) (class_at w low_w) alike))
        | inr found ↦ (symbol_of F.inputs found.0, length-symbol_of F.inputs found.0, found.2)
      ]

  -- and those of one class give one
  pub told_alike : (v w : ℕ) → v < 2 ^ (k * F.inputs) → w < 2 ^ (k * F.inputs) → slice_index classes v ≡ slice_index classes w → (x : List Bool) → length x ≡ F.inputs
      → output_bit F (state_at F k v) x b ≡ output_bit F (state_at F k w) x b
  told_alike v w low_v low_w same x long =
      let alike = one_class F b (state_at F k v) (state_at F k w) (slice_index classes v) (slice_index classes w) (class_at v low_v) (class_at w low_w) same in
      let written : symbol_of F.inputs (number_of x) ≡ x = subst (λ (n : ℕ). symbol_of n (number_of x) ≡ x) long (symbol_of-number_of x) in
      let below : number_of x < 2 ^ F.inputs = subst (λ (n : ℕ). number_of x < 2 ^ n) long (number_below x) in
      subst (λ (y : List Bool). output_bit F (state_at F k v) y b ≡ output_bit F (state_at F k w) y b) written (alike (number_of x) below)

  -- a latch value of a content, by its number
  value_there : (number i : ℕ) → i < k * F.inputs → slice_get (lowest_bits (k * F.inputs) number) i ≡ Some (bit number i)
  value_there number i lt =
      slice_get-get_or (lowest_bits (k * F.inputs) number) i false (omega (arith, lt, code_length (k * F.inputs) number)) ∙ ap (λ (d : Bool). Some d) (code_at (k * F.inputs) number i lt)

  differ_alone : (number latch : ℕ) → latch < k * F.inputs → DifferAlone latch (lowest_bits (k * F.inputs) number) (lowest_bits (k * F.inputs) (bit_xor number (2 ^ latch)))
  differ_alone number latch lt =
      let bits : List Bool = lowest_bits (k * F.inputs) number in
      let others : List Bool = lowest_bits (k * F.inputs) (bit_xor number (2 ^ latch)) in
      record {
        lengths = code_length (k * F.inputs) number ∙ sym (code_length (k * F.inputs) (bit_xor number (2 ^ latch)));
        there = λ same.
            let whole : Some (bit number latch) ≡ Some (bit (bit_xor number (2 ^ latch)) latch) = sym (value_there number latch lt) ∙ (same ∙ value_there (bit_xor number (2 ^ latch)) latch lt) in
            let one : bit number latch ≡ bit (bit_xor number (2 ^ latch)) latch = cc in
            flipped_there number latch (sym (same_digits number (bit_xor number (2 ^ latch)) latch latch one));
        elsewhere = λ i other. elim (cases_lt i (k * F.inputs)) [
          | inl within ↦ value_there number i within ∙ (ap (λ (d : Bool). Some d) (sym (flipped_bit number latch i other)) ∙ sym (value_there (bit_xor number (2 ^ latch)) i within))
          | inr beyond ↦
              slice_get_past bits i (omega (arith, beyond, code_length (k * F.inputs) number))
              ∙ sym (slice_get_past others i (omega (arith, beyond, code_length (k * F.inputs) (bit_xor number (2 ^ latch)))))
        ];
      }

  pub flip_matters : (latch : ℕ) → latch < k * F.inputs → FlipMatters classes latch → LatchMatters F k b latch
  flip_matters latch lt flip =
      let v : ℕ = flip.number in
      let w : ℕ = bit_xor v (2 ^ latch) in
      let low_v : v < 2 ^ (k * F.inputs) = omega (arith, flip.within, class_count) in
      let low_w : w < 2 ^ (k * F.inputs) = xor_lt (k * F.inputs) v (2 ^ latch) low_v (power_below latch (k * F.inputs) lt) in
      let told = told_apart v w low_v low_w flip.apart in
      record {
        word = content_of F k v;
        other = content_of F k w;
        x = told.0;
        content = content_is_word F k v;
        other_content = content_is_word F k w;
        symbol = told.1;
        differ = subst (λ (bits : List Bool). DifferAlone latch bits (latch_values (content_of F k w))) (sym (content_values F k v))
            (subst (λ (bits : List Bool). DifferAlone latch (lowest_bits (k * F.inputs) v) bits) (sym (content_values F k w)) (differ_alone v latch lt));
        values = told.2;
      }

  pub matters_flip : (latch : ℕ) → LatchMatters F k b latch → FlipMatters classes latch
  matters_flip latch matters =
      let one = numbered F k matters.word matters.content in
      let two = numbered F k matters.other matters.other_content in
      let bits : ℕ = k * F.inputs in
      let lt : latch < bits = differ_within bits latch (latch_values matters.word) (latch_values matters.other) (values_length F k matters.word matters.content) matters.differ in
      let read_one : (i : ℕ) → i < bits → slice_get (latch_values matters.word) i ≡ Some (bit one.number i) = λ i within. ap (λ (list : List Bool). slice_get list i) (sym one.values) ∙ value_there one.number i within in
      let read_two : (i : ℕ) → i < bits → slice_get (latch_values matters.other) i ≡ Some (bit two.number i) = λ i within. ap (λ (list : List Bool). slice_get list i) (sym two.values) ∙ value_there two.number i within in
      let low : bit_xor one.number (2 ^ latch) < 2 ^ bits = xor_lt bits one.number (2 ^ latch) one.low (power_below latch bits lt) in
      let same : two.number ≡ bit_xor one.number (2 ^ latch) =
      same_from_bits_below bits two.number (bit_xor one.number (2 ^ latch)) two.low low (λ i within.
      elim (cases_eq i latch) [
        | inl at ↦
            let apart : bit_at one.number latch ≢ bit_at two.number latch =
            λ e. matters.differ.there (read_one latch lt ∙ (ap (λ (d : Bool). Some d) (same_bits one.number two.number latch latch e) ∙ sym (read_two latch lt))) in
            subst (λ (j : ℕ). bit_at two.number j ≡ bit_at (bit_xor one.number (2 ^ latch)) j) (sym at)
            (omega (arith, apart, flipped_there one.number latch, bit_at-lt one.number latch, bit_at-lt two.number latch, bit_at-lt (bit_xor one.number (2 ^ latch)) latch))
        | inr other ↦
            let whole : Some (bit two.number i) ≡ Some (bit one.number i) = sym (read_two i within) ∙ (sym (matters.differ.elsewhere i other) ∙ read_one i within) in
            let digit : bit two.number i ≡ bit one.number i = cc in
            same_digits two.number (bit_xor one.number (2 ^ latch)) i i (digit ∙ sym (flipped_bit one.number latch i other))
      ]) in
      record {
        number = one.number;
        within = omega (arith, one.low, class_count);
        apart = λ class. matters.values
            (ap (λ (s : ℕ). output_bit F s matters.x b) (sym one.state)
            ∙ (told_alike one.number two.number one.low two.low (class ∙ ap (slice_index classes) (sym same)) matters.x matters.symbol
            ∙ ap (λ (s : ℕ). output_bit F s matters.x b) two.state));
      }

  -- ---- inputs
  pub among_input : (a : ℕ) → MattersAmong F b table (length F.states) a → InputMatters F k b a
  among_input a h =
      let v : ℕ = h.among.0 in
      let low : v < 2 ^ (k * F.inputs) = omega (arith, h.among.1, is.size) in
      let same : state_at F k v ≡ h.state = sym (is.each v low) ∙ (get_or_default table v 0 h.state h.among.1 ∙ h.among.2) in
      record {
        word = content_of F k v;
        x = h.there.x;
        y = h.there.y;
        content = content_is_word F k v;
        symbol = h.there.symbol;
        differ = h.there.differ;
        values = λ e. h.there.values (subst (λ (s : ℕ). output_bit F s h.there.x b ≡ output_bit F s h.there.y b) same e);
      }

  pub input_among : (a : ℕ) → InputMatters F k b a → MattersAmong F b table (length F.states) a
  input_among a h =
      let one = numbered F k h.word h.content in
      let within : one.number < length table = omega (arith, one.low, is.size) in
      let state : get_or table one.number 0 < length F.states = is.within one.number 0 within in
      let same : get_or table one.number 0 ≡ state_at F k one.number = is.each one.number one.low in
      record {
        state = get_or table one.number 0;
        within = state;
        among = Contains-get_or table one.number 0 within;
        there = record {
          x = h.x;
          y = h.y;
          symbol = h.symbol;
          differ = h.differ;
          values = λ e. h.values (subst (λ (s : ℕ). output_bit F s h.x b ≡ output_bit F s h.y b) (same ∙ one.state) e);
        };
      }
