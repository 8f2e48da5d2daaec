-- Outputs by their labels.
use Rattle.std.proofs.Common.{◌≡◌, ℕ, length, ◌+◌, ◌<◌, ◌≤◌, ◌^◌, ◌⊎◌, Option, Some, None, IsNone, IfSome, IfNone, Bool, true, false, inl, inr, sym, ◌∙◌, subst, refl, arith, ap, is_some}
use Rattle.std.proofs.lemmas.Bool.{cases_lt, false≢true, true≢false}
use Rattle.std.specs.Option.{option_map}
use Rattle.cubes.specs.Symbol.{symbol_of}
use Rattle.cubes.specs.Laws.Numbers.{length-symbol_of}
use Rattle.kiss_file.specs.declared.file.KissFile.{KissFile}
use Rattle.kiss_file.specs.declared.file.KissRow.{KissRow}
use Rattle.kiss_file.specs.Machine.{Conflicting, Specified, given_bit, output_bit}
use Rattle.kiss_file.specs.Laws.Machine.{output_bit_not_said, output_bit_said}
use Rattle.state_pairs.specs.RowLabels.{HaveOneLabel, NoneIsOpen, IsLabelAt, IsOpenAt, bit_label}
use Rattle.state_rows.specs.Least.{IsMetBy, lesser_of}
use Rattle.state_pairs.specs.Pairs.{AgreeAt, AgreeInBit, AtEachSymbol, DifferInBit, IsFoundInBits, IsFirstWithout}
use Rattle.state_pairs.specs.Laws.Labels.{AreLabels, if_some_each}
use Rattle.machine_table.specs.Laws.OutputWords.{same_map, same_values}
use Rattle.state_rows.specs.Laws.Least.{lesser_has, met_left, met_right}

-- the bit behind a label
mapped_bit : (o : Option Bool) (v : ℕ) → option_map bit_label o ≡ Some v → (bit : Bool) × (o ≡ Some bit) × (bit_label bit ≡ v)
mapped_bit None v is = absurd (cc)
mapped_bit (Some bit) v is = (bit, refl, (cc))

no_bit : (o : Option Bool) → IsNone (option_map bit_label o) → IsNone o
no_bit None none = refl
no_bit (Some bit) none = none

pub bit_from_digit : (a b : Bool) → bit_label a ≡ bit_label b → a ≡ b
bit_from_digit false false same = refl
bit_from_digit true true same = refl
bit_from_digit false true same = absurd (omega arith)
bit_from_digit true false same = absurd (omega arith)

one_or_two : (a b : Bool) → (a ≡ b) ⊎ (a ≡ b → ⊥)
one_or_two false false = inl refl
one_or_two true true = inl refl
one_or_two false true = inr false≢true
one_or_two true false = inr true≢false

-- the label of what a row gives
abbrev pub given_label : ℕ → KissRow → Option ℕ
given_label b row = option_map bit_label (given_bit b row)

abbrev pub no_label : ℕ → ℕ
no_label s = 0

abbrev pub label_of_output : ℕ → KissFile → (s x : ℕ) → ℕ
label_of_output b F s x = bit_label (output_bit F s (symbol_of F.inputs x) b)

module _ (F : KissFile) (no_conflict : Conflicting F → ⊥) (b : ℕ) where
  pub when_given : (s x v : ℕ) → IsLabelAt (given_label b) F s x v → label_of_output b F s x ≡ v
  when_given s x v (row, at, gives) =
      let bit = mapped_bit (given_bit b row) v gives in
      ap bit_label (output_bit_said F s (symbol_of F.inputs x) no_conflict row b bit.0 at bit.1) ∙ bit.2

  pub when_not_given : (s x : ℕ) → IsOpenAt (given_label b) F s x → label_of_output b F s x ≡ no_label s
  when_not_given s x silent = ap bit_label (output_bit_not_said F s (symbol_of F.inputs x) b (λ row at. no_bit (given_bit b row) (silent row at)))

-- labels of one output
pub output_labels : (F : KissFile) → (Conflicting F → ⊥) → (b : ℕ) → AreLabels F (given_label b) no_label (label_of_output b F)
output_labels F no_conflict b = record { when_said = when_given F no_conflict b; when_open = when_not_given F no_conflict b }

module _ (F : KissFile) (b s t x : ℕ) where
  pub bits_alike : label_of_output b F s x ≡ label_of_output b F t x → AgreeInBit b F s t x
  bits_alike same = bit_from_digit (output_bit F s (symbol_of F.inputs x) b) (output_bit F t (symbol_of F.inputs x) b) same

  pub bits_equal : AgreeInBit b F s t x → label_of_output b F s x ≡ label_of_output b F t x
  bits_equal agree = ap bit_label agree

-- ---- all outputs
module _ (F : KissFile) (s t : ℕ) where
  -- outputs that are equal are so in each bit, and the other way round
  pub in_each_bit : (x b : ℕ) → b < F.outputs → AgreeAt F s t x → AgreeInBit b F s t x
  in_each_bit x b within agree =
      same_values (output_bit F s (symbol_of F.inputs x)) (output_bit F t (symbol_of F.inputs x)) F.outputs agree b within

  pub from_each_bit : (x : ℕ) → ((b : ℕ) → b < F.outputs → AgreeInBit b F s t x) → AgreeAt F s t x
  from_each_bit x each = same_map (output_bit F s (symbol_of F.inputs x)) (output_bit F t (symbol_of F.inputs x)) F.outputs each

  met_in_bit : (b : ℕ) (found : Option ℕ) → IfSome found (IsFirstWithout F.inputs (AgreeInBit b F s t)) → IfNone found (AtEachSymbol F.inputs (AgreeInBit b F s t))
      → (y : ℕ) → y < 2 ^ F.inputs → (AgreeInBit b F s t y → ⊥) → IsMetBy found true y
  met_in_bit b None some none y within differ = differ (none y within)
  met_in_bit b (Some x) some none y within differ = λ asked. not_after where
    not_after : x ≤ y
    not_after =
        elim (cases_lt y x) [
          | inl less ↦ absurd (differ (some.before y less))
          | inr no_less ↦ no_less
        ]

  pub first_more : (b : ℕ) (found more result : Option ℕ) → b < F.outputs → IsFoundInBits F s t b true found → result ≡ lesser_of found more
      → IfSome more (IsFirstWithout F.inputs (AgreeInBit b F s t)) → IfNone more (AtEachSymbol F.inputs (AgreeInBit b F s t)) → IsFoundInBits F s t (b + 1) true result
  first_more b found more result inside known is some none =
      subst (IsFoundInBits F s t (b + 1) true) (sym is)
      (record {
        some = lesser_has (DifferInBit F s t) found more known.some
            (if_some_each (IsFirstWithout F.inputs (AgreeInBit b F s t)) (DifferInBit F s t) more (λ x first. (first.within, (b, inside, first.without))) some);
        met = up_to;
      })
    where
      up_to : (k y : ℕ) → k < b + 1 → y < 2 ^ F.inputs → (AgreeInBit k F s t y → ⊥) → IsMetBy (lesser_of found more) true y
      up_to k y below within differ =
          elim (cases_lt k b) [
            | inl lower ↦ met_left found more true y (known.met k y lower within differ)
            | inr here ↦
                let same : k ≡ b = omega arith in
                met_right found more true y (met_in_bit b more some none y within (subst (λ (n : ℕ). AgreeInBit n F s t y → ⊥) same differ))
          ]

  -- the lesser of all is the first symbol at which the outputs are not equal
  pub first_of_all : (found : Option ℕ) → IsFoundInBits F s t F.outputs true found → IfSome found (IsFirstWithout F.inputs (AgreeAt F s t))
  first_of_all None known = tt
  first_of_all (Some x) known = record {
    within = known.some.0;
    without = λ agree. let one = known.some.1 in one.2 (in_each_bit x one.0 one.1 agree);
    before = λ y less. from_each_bit y (λ b inside. earlier y less b inside);
  }
    where
      earlier : (y : ℕ) → y < x → (b : ℕ) → b < F.outputs → AgreeInBit b F s t y
      earlier y less b inside =
          elim (one_or_two (output_bit F s (symbol_of F.inputs y) b) (output_bit F t (symbol_of F.inputs y) b)) [
            | inl same ↦ same
            | inr two ↦
                let later = known.met b y inside (omega (arith, known.some.0)) two refl in
                absurd (omega (arith, later))
          ]

  pub none_of_all : (least : Bool) (found : Option ℕ) → IsFoundInBits F s t F.outputs least found → IfNone found (AtEachSymbol F.inputs (AgreeAt F s t))
  none_of_all least (Some x) known = tt
  none_of_all least None known = λ x within. from_each_bit x (λ b inside. each x within b inside) where
    each : (x : ℕ) → x < 2 ^ F.inputs → (b : ℕ) → b < F.outputs → AgreeInBit b F s t x
    each x within b inside =
        elim (one_or_two (output_bit F s (symbol_of F.inputs x) b) (output_bit F t (symbol_of F.inputs x) b)) [
          | inl same ↦ same
          | inr two ↦ absurd (known.met b x inside within two)
        ]

some_digit : (o : Option Bool) → is_some o ≡ true → is_some (option_map bit_label o) ≡ true
some_digit None some = some
some_digit (Some bit) some = refl

-- rows of a state at one symbol give one bit
pub one_given : (F : KissFile) → (Conflicting F → ⊥) → (b : ℕ) → HaveOneLabel (given_label b) F
one_given F no_conflict b s x v w first second = sym (when_given F no_conflict b s x v first) ∙ when_given F no_conflict b s x w second

-- where nothing is open some row gives a bit
pub given_everywhere : (F : KissFile) (b s t : ℕ) → b < F.outputs → s < length F.states → t < length F.states → Specified F → NoneIsOpen (given_label b) F s t
given_everywhere F b s t inside first second specified x = (at s first, at t second) where
  at : (u : ℕ) → u < length F.states → IsOpenAt (given_label b) F u x → ⊥
  at u within silent =
      let there = (specified u (symbol_of F.inputs x) within (length-symbol_of F.inputs x)).outputs b inside in
      true≢false (sym (some_digit (given_bit b there.0) there.2) ∙ silent there.0 there.1)
