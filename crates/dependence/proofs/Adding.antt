-- Effects that are added to the list.
use Rattle.std.proofs.Common.{◌≡◌, ◌≢◌, ◌∙◌, ◌⊎◌, ◌↔◌, ℕ, ◌-◌, ◌^◌, ◌<◌, Bool, true, false, not, ◌||◌, ◌&&◌, if◌then◌else◌, Option, Some, None, List, length, get_or, set, replicate, inl, inr, ap, sym, subst, refl, arith, bit_and, bit_or}
use Rattle.std.proofs.Math.ListN.{length-set}
use Rattle.std.proofs.lemmas.Bool.{cases_eq, false≢true, or_cases, or_left, or_right}
use Rattle.std.proofs.lemmas.List.{get_or-replicate, get_or-set_other, get_or-set_same, length-replicate}
use Rattle.std.proofs.lemmas.Option.{get_or_from_slice_get, same_Some, slice_get-get_or, slice_get_within}
use Rattle.std.specs.Bool.{beq}
use Rattle.std.specs.Option.{option_map}
use Rattle.std.specs.Int.RustNames.{bit_xor}
use Rattle.cubes.specs.Cube.{clash_of}
use Rattle.cubes.specs.Symbol.{bit}
use Rattle.cubes.specs.Laws.Bits.{bit-and, bit-or, bit-xor, bit-zero}
use Rattle.kiss_file.specs.declared.file.KissRow.{KissRow}
use Rattle.kiss_file.specs.Machine.{given_bit}
use Rattle.dependence.specs.declared.effects.Effect.{Effect}
use Rattle.dependence.specs.declared.bit.Bit.{Bit}
use Rattle.dependence.specs.declared.bit.Bit.TheVariants.{Latch, Output}
use Rattle.dependence.specs.Effects.{ActsBy, acts_on}
use Rattle.dependence.specs.Inner.Effects.{Adds, AreGivenApart, IsActed, Show, acts_in}
use Rattle.dependence.specs.RowBits.{next_bit, row_value}
use Rattle.dependence.proofs.Symbols.{clash_turned, one_place}

-- ---- what is added in turn
pub adds_none : (effects : List Effect) (Shown : ℕ → Bit → Type 0) → ((a : ℕ) (gate : Bit) → Shown a gate → ⊥) → Adds effects effects Shown
adds_none effects Shown none = record {
  size = refl;
  keeps = λ a gate acts. acts;
  adds = λ a gate shown. absurd (none a gate shown);
  only = λ a gate acts. inl acts;
}

pub adds_as : (old new : List Effect) (Shown Other : ℕ → Bit → Type 0) → ((a : ℕ) (gate : Bit) → Shown a gate → Other a gate) → ((a : ℕ) (gate : Bit) → Other a gate → Shown a gate) → Adds old new Shown → Adds old new Other
adds_as old new Shown Other to from added = record {
  size = added.size;
  keeps = added.keeps;
  adds = λ a gate other. added.adds a gate (from a gate other);
  only = λ a gate acts. elim (added.only a gate acts) [ inl before ↦ inl before | inr shown ↦ inr (to a gate shown) ];
}

pub adds_then : (old mid new : List Effect) (First Second Both : ℕ → Bit → Type 0) → ((a : ℕ) (gate : Bit) → First a gate → Both a gate) → ((a : ℕ) (gate : Bit) → Second a gate → Both a gate) → ((a : ℕ) (gate : Bit) → Both a gate → First a gate ⊎ Second a gate) → Adds old mid First → Adds mid new Second → Adds old new Both
adds_then old mid new First Second Both of_first of_second split first second = record {
  size = second.size ∙ first.size;
  keeps = λ a gate acts. second.keeps a gate (first.keeps a gate acts);
  adds = λ a gate both. elim (split a gate both) [ inl one ↦ second.keeps a gate (first.adds a gate one) | inr other ↦ second.adds a gate other ];
  only = λ a gate acts. elim (second.only a gate acts) [
    | inl before ↦ elim (first.only a gate before) [ inl old ↦ inl old | inr one ↦ inr (of_first a gate one) ]
    | inr other ↦ inr (of_second a gate other)
  ];
}

-- ---- one effect
pub acts_from : (effects : List Effect) (a : ℕ) (gate : Bit) (d : Effect) → a < length effects → acts_on (get_or effects a d) gate ≡ true → ActsBy effects a gate
acts_from effects a gate d within acts = record { effect = get_or effects a d; there = slice_get-get_or effects a d within; acts = acts }

pub acts_within : (effects : List Effect) (a : ℕ) (gate : Bit) → ActsBy effects a gate → a < length effects
acts_within effects a gate acts = slice_get_within effects a acts.effect acts.there

pub acts_there : (effects : List Effect) (a : ℕ) (gate : Bit) (d : Effect) → ActsBy effects a gate → acts_on (get_or effects a d) gate ≡ true
acts_there effects a gate d acts = ap (λ (e : Effect). acts_on e gate) (get_or_from_slice_get effects a acts.effect d acts.there) ∙ acts.acts

-- the effect with more latches and outputs
abbrev pub joined : Effect → ℕ → ℕ → Effect
joined effect latches outputs = record { latches = bit_or effect.latches latches; outputs = bit_or effect.outputs outputs }

acts_joined : (effect : Effect) (latches outputs : ℕ) (gate : Bit) → acts_on (joined effect latches outputs) gate ≡ (acts_on effect gate || acts_in latches outputs gate)
acts_joined effect latches outputs (Latch i) = bit-or effect.latches latches i
acts_joined effect latches outputs (Output b) = bit-or effect.outputs outputs b

module _ (effects : List Effect) (input latches outputs : ℕ) (d : Effect) (within : input < length effects) where
  there : (gate : Bit) → acts_on (get_or (set effects input (joined (get_or effects input d) latches outputs)) input d) gate ≡ (acts_on (get_or effects input d) gate || acts_in latches outputs gate)
  there gate = ap (λ (e : Effect). acts_on e gate) (get_or-set_same effects input (joined (get_or effects input d) latches outputs) d within) ∙ acts_joined (get_or effects input d) latches outputs gate

  size : length (set effects input (joined (get_or effects input d) latches outputs)) ≡ length effects
  size = length-set effects input (joined (get_or effects input d) latches outputs)

  pub adds_effect : Adds effects (set effects input (joined (get_or effects input d) latches outputs)) (IsActed input latches outputs)
  adds_effect = record {
    size = size;
    keeps = λ a gate acts. elim (cases_eq a input) [
      | inl at ↦
          let old : acts_on (get_or effects input d) gate ≡ true = subst (λ (k : ℕ). acts_on (get_or effects k d) gate ≡ true) at (acts_there effects a gate d acts) in
          subst (λ (k : ℕ). ActsBy (set effects input (joined (get_or effects input d) latches outputs)) k gate) (sym at)
          (acts_from (set effects input (joined (get_or effects input d) latches outputs)) input gate d (omega (arith, size, within)) (there gate ∙ or_left (acts_on (get_or effects input d) gate) (acts_in latches outputs gate) old))
      | inr other ↦
          acts_from (set effects input (joined (get_or effects input d) latches outputs)) a gate d (omega (arith, size, acts_within effects a gate acts))
          (ap (λ (e : Effect). acts_on e gate) (get_or-set_other effects input a (joined (get_or effects input d) latches outputs) d other) ∙ acts_there effects a gate d acts)
    ];
    adds = λ a gate shown.
        subst (λ (k : ℕ). ActsBy (set effects input (joined (get_or effects input d) latches outputs)) k gate) (sym shown.0)
        (acts_from (set effects input (joined (get_or effects input d) latches outputs)) input gate d (omega (arith, size, within)) (there gate ∙ or_right (acts_on (get_or effects input d) gate) (acts_in latches outputs gate) shown.1));
    only = λ a gate acts. elim (cases_eq a input) [
      | inl at ↦
          let new : acts_on (get_or (set effects input (joined (get_or effects input d) latches outputs)) input d) gate ≡ true =
          subst (λ (k : ℕ). acts_on (get_or (set effects input (joined (get_or effects input d) latches outputs)) k d) gate ≡ true) at (acts_there (set effects input (joined (get_or effects input d) latches outputs)) a gate d acts) in
          elim (or_cases (acts_on (get_or effects input d) gate) (acts_in latches outputs gate) (sym (there gate) ∙ new)) [
            | inl old ↦ inl (subst (λ (k : ℕ). ActsBy effects k gate) (sym at) (acts_from effects input gate d within old))
            | inr added ↦ inr (at, added)
          ]
      | inr other ↦ inl (acts_from effects a gate d (omega (arith, size, acts_within (set effects input (joined (get_or effects input d) latches outputs)) a gate acts))
          (sym (ap (λ (e : Effect). acts_on e gate) (get_or-set_other effects input a (joined (get_or effects input d) latches outputs) d other)) ∙ acts_there (set effects input (joined (get_or effects input d) latches outputs)) a gate d acts))
    ];
  }

-- no effect acts
pub none_acts : (inputs : ℕ) (d : Effect) → d.latches ≡ 0 → d.outputs ≡ 0 → (a : ℕ) (gate : Bit) → ActsBy (replicate inputs d) a gate → ⊥
none_acts inputs d no_latch no_output a gate acts =
    let size : length (replicate inputs d) ≡ inputs = length-replicate inputs d in
    let at : get_or (replicate inputs d) a d ≡ d = get_or-replicate inputs a d d (omega (arith, size, acts_within (replicate inputs d) a gate acts)) in
    by_gate gate (sym (ap (λ (e : Effect). acts_on e gate) at) ∙ acts_there (replicate inputs d) a gate d acts) where
      by_gate : (gate : Bit) → acts_on d gate ≡ true → ⊥
      by_gate (Latch i) acts = false≢true (sym (ap (λ n. bit n i) no_latch ∙ bit-zero i) ∙ acts)
      by_gate (Output b) acts = false≢true (sym (ap (λ n. bit n b) no_output ∙ bit-zero b) ∙ acts)

-- ---- what two rows show
apart_turned : (first second : Option Bool) → AreGivenApart first second → AreGivenApart second first
apart_turned first second (v, w, is_v, is_w, apart) = (w, v, is_w, is_v, λ same. apart (sym same))

pub turned : (inputs : ℕ) (words : List ℕ) (one other : KissRow) (a : ℕ) (gate : Bit) → Show inputs words one other a gate → Show inputs words other one a gate
turned inputs words one other a gate show = record {
  differ = record { place = show.differ.place; of_input = show.differ.of_input; clash = clash_turned other.cube one.cube ∙ show.differ.clash };
  values = apart_turned (row_value words gate one) (row_value words gate other) show.values;
}

module _ (words : List ℕ) (one other : KissRow) (latches outputs : ℕ)
    (of_latches : (i : ℕ) → (bit latches i ≡ true) ↔ AreGivenApart (next_bit words i one) (next_bit words i other))
    (of_outputs : (b : ℕ) → (bit outputs b ≡ true) ↔ AreGivenApart (given_bit b one) (given_bit b other)) where
  acts_by_values : (gate : Bit) → (acts_in latches outputs gate ≡ true) ↔ AreGivenApart (row_value words gate one) (row_value words gate other)
  acts_by_values (Latch i) = of_latches i
  acts_by_values (Output b) = of_outputs b

  -- the effect at the place where their cubes differ
  pub acted_shows : (inputs place : ℕ) → clash_of one.cube other.cube ≡ 2 ^ place → place < inputs → (a : ℕ) (gate : Bit) → IsActed (inputs - 1 - place) latches outputs a gate → Show inputs words one other a gate
  acted_shows inputs place clash within a gate acted = record {
    differ = record { place = place; of_input = omega (arith, within, acted.0); clash = clash };
    values = (acts_by_values gate).0 acted.1;
  }

  pub shows_acted : (inputs place : ℕ) → clash_of one.cube other.cube ≡ 2 ^ place → (a : ℕ) (gate : Bit) → Show inputs words one other a gate → IsActed (inputs - 1 - place) latches outputs a gate
  shows_acted inputs place clash a gate show =
      let at : show.differ.place ≡ place = one_place show.differ.place place (sym show.differ.clash ∙ clash) in
      (omega (arith, at, show.differ.of_input), (acts_by_values gate).1 show.values)

-- ---- what two rows say
differs_from : (a b : Bool) → not (beq a b) ≡ true → a ≢ b
differs_from true true is same = false≢true is
differs_from true false is same = false≢true (sym same)
differs_from false true is same = false≢true same
differs_from false false is same = false≢true is

differs_to : (a b : Bool) → a ≢ b → not (beq a b) ≡ true
differs_to true true other = absurd (other refl)
differs_to true false other = refl
differs_to false true other = refl
differs_to false false other = absurd (other refl)

some_apart : (v w : Bool) → (not (beq v w) ≡ true) ↔ AreGivenApart (Some v) (Some w)
some_apart v w = (
  (λ is. (v, w, refl, refl, differs_from v w is)),
  (λ apart. differs_to v w (λ same. apart.4 (sym (same_Some v apart.0 apart.2) ∙ same ∙ same_Some w apart.1 apart.3))),
)

words_apart : (words : List ℕ) (i t u : ℕ) → (bit (bit_xor (get_or words t 0) (get_or words u 0)) i ≡ true) ↔ AreGivenApart (Some (bit (get_or words t 0) i)) (Some (bit (get_or words u 0) i))
words_apart words i t u =
    let both = some_apart (bit (get_or words t 0) i) (bit (get_or words u 0) i) in
    ((λ is. both.0 (sym (bit-xor (get_or words t 0) (get_or words u 0) i) ∙ is)), (λ apart. bit-xor (get_or words t 0) (get_or words u 0) i ∙ both.1 apart))

pub latches_apart : (words : List ℕ) (one other : KissRow) (i t u : ℕ) → one.to ≡ Some t → other.to ≡ Some u
    → (bit (bit_xor (get_or words t 0) (get_or words u 0)) i ≡ true) ↔ AreGivenApart (next_bit words i one) (next_bit words i other)
latches_apart words one other i t u goes leads =
    let coded = λ (s : ℕ). bit (get_or words s 0) i in
    let first : next_bit words i one ≡ Some (bit (get_or words t 0) i) = ap (λ (o : Option ℕ). option_map coded o) goes in
    let second : next_bit words i other ≡ Some (bit (get_or words u 0) i) = ap (λ (o : Option ℕ). option_map coded o) leads in
    let both = words_apart words i t u in (
      (λ is. subst (λ (o : Option Bool). AreGivenApart o (next_bit words i other)) (sym first) (subst (AreGivenApart (Some (bit (get_or words t 0) i))) (sym second) (both.0 is))),
      (λ apart. both.1 (subst (AreGivenApart (Some (bit (get_or words t 0) i))) second (subst (λ (o : Option Bool). AreGivenApart o (next_bit words i other)) first apart))),
    )

given_apart : (a b v w : Bool) → (((a && b) && not (beq v w)) ≡ true) ↔ AreGivenApart (if a then Some v else None) (if b then Some w else None)
given_apart true true v w = some_apart v w
given_apart true false v w = ((λ is. absurd (false≢true is)), (λ apart. let gone : None ≡ Some apart.1 = apart.3 in absurd (cc)))
given_apart false b v w = ((λ is. absurd (false≢true is)), (λ apart. let gone : None ≡ Some apart.0 = apart.2 in absurd (cc)))

pub outputs_apart : (one other : KissRow) (b : ℕ) → (bit (bit_and (bit_and one.care other.care) (bit_xor one.value other.value)) b ≡ true) ↔ AreGivenApart (given_bit b one) (given_bit b other)
outputs_apart one other b =
    let digits : bit (bit_and (bit_and one.care other.care) (bit_xor one.value other.value)) b ≡ ((bit one.care b && bit other.care b) && not (beq (bit one.value b) (bit other.value b))) =
    bit-and (bit_and one.care other.care) (bit_xor one.value other.value) b
    ∙ ap (λ (x : Bool). x && bit (bit_xor one.value other.value) b) (bit-and one.care other.care b)
    ∙ ap (λ (x : Bool). (bit one.care b && bit other.care b) && x) (bit-xor one.value other.value b) in
    let both = given_apart (bit one.care b) (bit other.care b) (bit one.value b) (bit other.value b) in
    ((λ is. both.0 (sym digits ∙ is)), (λ apart. digits ∙ both.1 apart))
