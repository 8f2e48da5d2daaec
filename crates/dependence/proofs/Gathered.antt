-- What one gate reads, and the lists of all gates.
use Rattle.std.proofs.Common.{◌≡◌, ◌↔◌, ◌∙◌, ℕ, ◌+◌, ◌-◌, ◌^◌, ◌<◌, ◌≤◌, ◌/◌, All, Bool, Contains, IfSome, List, [], ◌∷◌, ◌++◌, length, get_or, Some, inl, inr, ap, sym, subst, arith}
use Rattle.std.proofs.lemmas.Bool.{cases_eq, cases_lt}
use Rattle.std.proofs.lemmas.List.Elements.{All-weaker}
use Rattle.std.proofs.lemmas.List.Sorted.{Contains-permutation}
use Rattle.std.specs.List.Sorted.{IsPermutation}
use Rattle.std.proofs.lemmas.List.{get_or_append_left, get_or_push, length_push}
use Rattle.std.proofs.lemmas.Nat.Bits.{bit_at_ones, bit_at_ones_above, ones_shr}
use Rattle.std.proofs.lemmas.Option.{get_or_from_slice_get, slice_get-get_or, slice_get_within}
use Rattle.std.specs.List.{slice_get}
use Rattle.kiss_file.specs.declared.file.KissFile.{KissFile}
use Rattle.kiss_file.specs.declared.file.KissRow.{KissRow}
use Rattle.machine_table.specs.declared.open_part.Missing.{Missing}
use Rattle.machine_table.specs.Pieces.{IsRightRow, IsSaidBy}
use Rattle.machine_table.specs.OpenEntries.{place_of}
use Rattle.dependence.specs.declared.effects.Effect.{Effect}
use Rattle.dependence.specs.declared.bit.Bit.{Bit}
use Rattle.dependence.specs.declared.sets.ReadSet.{ReadSet}
use Rattle.dependence.specs.Inputs.{Matters}
use Rattle.dependence.specs.Effects.{ActsBy, AddsState, MattersAt}
use Rattle.dependence.specs.Inner.Effects.{Adds, AreEffects, MattersBelow, ShowAcross}
use Rattle.dependence.specs.Bit.{IsBit, value_of}
use Rattle.dependence.specs.BitLists.{AreListed}
use Rattle.dependence.specs.SufficientBits.{InWord}
use Rattle.dependence.specs.ReadRule.{Beside, IsReadRule}
use Rattle.dependence.specs.Reads.{IsReadSet}
use Rattle.dependence.proofs.Adding.{acts_within}
use Rattle.dependence.specs.Laws.Judged.{permits_more}
use Rattle.dependence.proofs.Showing.{across_matters, matters_across}
use Rattle.dependence.specs.Laws.Words.{bit_within}

-- the rule is one of which bits are candidates and which are read
pub rule_same : (F : KissFile) (words : List ℕ) (C D R S : ℕ → Type 0) (value : ℕ → List Bool → Bool) → ((c : ℕ) → C c ↔ D c) → ((c : ℕ) → R c ↔ S c) → IsReadRule F words C R value → IsReadRule F words D S value
rule_same F words C D R S value candidates read rule = record {
  candidates = λ c is. (candidates c).0 (rule.candidates c ((read c).1 is));
  needed = λ c is permits. rule.needed c ((read c).1 is) (permits_more F words (Beside D S c) (Beside C R c) value (from c) permits);
  spared = λ c is out. permits_more F words (Beside C R c) (Beside D S c) value (to c) (rule.spared c ((candidates c).1 is) (λ stands. out ((read c).0 stands)));
} where
  to : (c d : ℕ) → Beside C R c d → Beside D S c d
  to c d is = elim is [ inl low ↦ inl (low.0, (candidates d).0 low.1) | inr high ↦ inr (high.0, (read d).0 high.1) ]

  from : (c d : ℕ) → Beside D S c d → Beside C R c d
  from c d is = elim is [ inl low ↦ inl (low.0, (candidates d).1 low.1) | inr high ↦ inr (high.0, (read d).1 high.1) ]

-- a list of the bits of a word
pub listed_in : (list : List ℕ) (set : ℕ) → set < 2 ^ 64 → AreListed list set 64 → (c : ℕ) → InWord set c ↔ Contains list c
listed_in list set small listed c = (
  (λ is. (listed.each c).1 (bit_within set c small is, is)),
  (λ is. ((listed.each c).0 is).1),
)

-- an input matters at some state below the number of states
pub matters_below : (F : KissFile) (value : ℕ → List Bool → Bool) (a : ℕ) → Matters F value a ↔ MattersBelow F value (length F.states) a
matters_below F value a = (
  (λ matters. record { state = matters.s; below = matters.state; there = record { x = matters.x; y = matters.y; symbol = matters.symbol; differ = matters.differ; values = matters.values } }),
  (λ below. record { s = below.state; x = below.there.x; y = below.there.y; state = below.below; symbol = below.there.symbol; differ = below.there.differ; values = below.there.values }),
)

-- what one gate reads
pub read_set_from : (F : KissFile) (words : List ℕ) (effects : List Effect) (candidates : ℕ) (gate : Bit) (bits inputs : ℕ) (set : ReadSet) → IsBit F gate → AreEffects F words effects (length F.states)
    → bits < 2 ^ 64 → inputs < 2 ^ 64 → IsReadRule F words (InWord candidates) (InWord bits) (value_of F words gate)
    → ((a : ℕ) → InWord inputs a ↔ ActsBy effects a gate) → AreListed set.inputs inputs 64 → AreListed set.latches bits 64 → IsReadSet F words (InWord candidates) (value_of F words gate) set
read_set_from F words effects candidates gate bits inputs set of_gate are small_bits small_inputs rule acts listed_inputs listed_bits = record {
  latches = rule_same F words (InWord candidates) (InWord candidates) (InWord bits) (Contains set.latches) (value_of F words gate) (λ c. ((λ is. is), (λ is. is))) (listed_in set.latches bits small_bits listed_bits) rule;
  latches_ascend = listed_bits.ascend;
  inputs = λ a. (
    (λ is.
        let by : ActsBy effects a gate = (acts a).0 ((listed_in set.inputs inputs small_inputs listed_inputs a).1 is) in
        (omega (arith, acts_within effects a gate by, are.size), (matters_below F (value_of F words gate) a).1 ((are.each a gate of_gate).0 by))),
    (λ is. (listed_in set.inputs inputs small_inputs listed_inputs a).0 ((acts a).1 ((are.each a gate of_gate).1 ((matters_below F (value_of F words gate) a).0 is.1)))),
  );
  inputs_ascend = listed_inputs.ascend;
}

-- the same of other words for the candidates
pub read_set_same : (F : KissFile) (words : List ℕ) (C D : ℕ → Type 0) (value : ℕ → List Bool → Bool) (set : ReadSet) → ((c : ℕ) → C c ↔ D c) → IsReadSet F words C value set → IsReadSet F words D value set
read_set_same F words C D value set same is = record {
  latches = rule_same F words C D (Contains set.latches) (Contains set.latches) value same (λ c. ((λ is. is), (λ is. is))) is.latches;
  latches_ascend = is.latches_ascend;
  inputs = is.inputs;
  inputs_ascend = is.inputs_ascend;
}

-- one more set stands in the list
pub each_more : (P : ℕ → ReadSet → Type 0) (sets : List ReadSet) (count : ℕ) (set : ReadSet) → length sets ≡ count → ((i : ℕ) (it : ReadSet) → slice_get sets i ≡ Some it → P i it) → P count set → (i : ℕ) (it : ReadSet) → slice_get (sets ++ set ∷ []) i ≡ Some it → P i it
each_more P sets count set size before here i it at =
    let within : i < length (sets ++ set ∷ []) = slice_get_within (sets ++ set ∷ []) i it at in
    let read : get_or (sets ++ set ∷ []) i it ≡ it = get_or_from_slice_get (sets ++ set ∷ []) i it it at in
    elim (cases_lt i (length sets)) [
      | inl old ↦ before i it (slice_get-get_or sets i it old ∙ ap Some (sym (get_or_append_left sets (set ∷ []) it i old) ∙ read))
      | inr new ↦
          let last : i ≡ count = omega (arith, within, length_push sets set, new, size) in
          let same : set ≡ it = sym (get_or_push sets set it i (omega (arith, last, size))) ∙ read in
          subst (λ (k : ℕ). P k it) (sym last) (subst (P count) same here)
    ]

-- the bits below a number
pub bits_of_ones : (bits : ℕ) → bits ≤ 64 → (2 ^ 64 - 1) / 2 ^ (64 - bits) ≡ 2 ^ bits - 1
bits_of_ones bits few = ones_shr 64 (64 - bits) (omega arith) ∙ ap (λ (k : ℕ). 2 ^ k - 1) (omega (arith, few))

pub ones_below : (bits : ℕ) → bits ≤ 64 → (c : ℕ) → InWord ((2 ^ 64 - 1) / 2 ^ (64 - bits)) c ↔ (c < bits)
ones_below bits few c =
    subst (λ (n : ℕ). InWord n c ↔ (c < bits)) (sym (bits_of_ones bits few))
    (elim (cases_lt c bits) [
      | inl below ↦ ((λ is. below), (λ within. bit_at_ones bits c below))
      | inr above ↦ ((λ is. absurd (omega (arith, is, bit_at_ones_above bits c above))), (λ within. absurd (omega (arith, within, above))))
    ])

-- ---- the effects of all states
pub effects_none : (F : KissFile) (words : List ℕ) (effects : List Effect) → length effects ≡ F.inputs → F.inputs ≤ 64 → ((a : ℕ) (gate : Bit) → ActsBy effects a gate → ⊥) → AreEffects F words effects 0
effects_none F words effects size few none = record {
  size = size;
  few = omega (arith, size, few);
  each = λ a gate of_gate. ((λ acts. absurd (none a gate acts)), (λ matters. absurd (omega (arith, matters.below))));
}

-- each next state that a row names is a state, of which there is a word
pub nexts_within : (F : KissFile) (s : ℕ) (rows : List KissRow) (count : ℕ) → count ≡ length F.states → All (IsRightRow F s) rows → All (λ (row : KissRow). IfSome row.to (λ t. t < count)) rows
nexts_within F s rows count size right =
    All-weaker (IsRightRow F s) (λ (row : KissRow). IfSome row.to (λ t. t < count)) (λ row is. subst (λ (n : ℕ). IfSome row.to (λ t. t < n)) (sym size) is.lawful.to) rows right

-- the cube of each row has a place for each input
pub widths_of : (F : KissFile) (s : ℕ) (rows : List KissRow) (count : ℕ) → count ≡ F.inputs → All (IsRightRow F s) rows → All (λ (row : KissRow). row.cube.width ≡ count) rows
widths_of F s rows count size right = All-weaker (IsRightRow F s) (λ (row : KissRow). row.cube.width ≡ count) (λ row is. is.lawful.width ∙ sym size) rows right

-- what the rows of a state show
pub state_added : (F : KissFile) (words : List ℕ) (old new : List Effect) (s : ℕ) (rows : List KissRow) → length old ≡ F.inputs → ((x : ℕ) (part : Missing) → x < 2 ^ F.inputs → place_of part < F.outputs + 1 → IsSaidBy rows x part) → All (IsRightRow F s) rows
    → Adds old new (ShowAcross (length old) words rows rows) → AddsState F words s old new
state_added F words old new s rows size each right added = record {
  size = added.size;
  each = λ a gate of_gate. (
    (λ acts. elim (added.only a gate acts) [
      | inl known ↦ inl known
      | inr shown ↦ inr (across_matters F words gate of_gate s rows each right a (subst (λ (n : ℕ). ShowAcross n words rows rows a gate) size shown))
    ]),
    (λ either. elim either [
      | inl known ↦ added.keeps a gate known
      | inr here ↦ added.adds a gate (subst (λ (n : ℕ). ShowAcross n words rows rows a gate) (sym size) (matters_across F words gate of_gate s rows each right a here))
    ]),
  );
}

-- one more state
pub effects_more : (F : KissFile) (words : List ℕ) (old new : List Effect) (s : ℕ) → AreEffects F words old s → AddsState F words s old new → AreEffects F words new (s + 1)
effects_more F words old new s before added = record {
  size = added.size ∙ before.size;
  few = omega (arith, added.size, before.few);
  each = λ a gate of_gate. (
    (λ acts. elim ((added.each a gate of_gate).0 acts) [
      | inl known ↦
          let matters : MattersBelow F (value_of F words gate) s a = (before.each a gate of_gate).0 known in
          record { state = matters.state; below = omega (arith, matters.below); there = matters.there }
      | inr here ↦ record { state = s; below = omega arith; there = here }
    ]),
    (λ matters. elim (cases_eq matters.state s) [
      | inl at ↦ (added.each a gate of_gate).1 (inr (subst (λ (t : ℕ). MattersAt F (value_of F words gate) t a) at matters.there))
      | inr other ↦ (added.each a gate of_gate).1 (inl ((before.each a gate of_gate).1 (record { state = matters.state; below = omega (arith, matters.below, other); there = matters.there })))
    ]),
  );
}

-- the rows in another order
pub said_reordered : (rows other : List KissRow) → IsPermutation rows other → (x : ℕ) (part : Missing) → IsSaidBy rows x part → IsSaidBy other x part
said_reordered rows other same x part said = (said.0, Contains-permutation rows other said.0 same said.1, said.2, said.3)
