-- Two shift registers of one file have the same comments, and networks that are equal but for the rows of their
-- gates.
use Rattle.std.proofs.Common.{◌≡◌, ◌∙◌, ℕ, zero, suc, ◌+◌, ◌-◌, ◌*◌, ◌<◌, ◌≤◌, ◌++◌, Bool, All, List, [], ◌∷◌, Some, length, map, slice_get, inl, inr, refl, sym, ap, subst, arith}
use Rattle.std.proofs.Math.Nat.{add-mul, suc-mul}
use Rattle.std.proofs.lemmas.Bool.{cases_lt}
use Rattle.std.proofs.lemmas.List.{length-append}
use Rattle.std.proofs.lemmas.List.Elements.{All-head, All-tail}
use Rattle.std.proofs.lemmas.Option.{same_Some, slice_get_within}
use Rattle.blif_out.specs.NetworkText.{IsNetworkText}
use Rattle.cubes.specs.Symbol.{number_of, symbol_of}
use Rattle.cubes.specs.Laws.Numbers.{symbol_of-number_of}
use Rattle.dependence.specs.declared.sets.ReadSet.{ReadSet}
use Rattle.kiss_file.specs.declared.file.KissFile.{KissFile}
use Rattle.net_core.specs.declared.Gate.{Gate}
use Rattle.net_core.specs.declared.Network.{Network}
use Rattle.net_core.specs.declared.SignalNames.{SignalNames}
use Rattle.net_core.specs.Step.{AreStarts}
use Rattle.gate_rows.specs.Names.{name_at}
use Rattle.shift_real.specs.Gates.{IsReadAfter, taking}
use Rattle.shift_real.specs.Register.{IsStartContent, bits_of, latch_values, word_number}
use Rattle.shift_real.specs.ShiftNetwork.{IsRegister}
use Rattle.shift_real.specs.Laws.StartContent.{order_once}
use Rattle.split_texts.specs.Laws.Names.{names_once}
use Rattle.shift_texts.specs.ShiftText.{IsShiftOf}
use Rattle.state_reduce.specs.Laws.Works.{one_work}
use Rattle.text_laws.specs.Rows.{EqualButForRows, HasSameSignals, RegistersDifferInRows, ShiftRowsAloneDiffer}
use Rattle.decomposition.specs.Laws.Lists.{same_ascending, zip_at}
use Rattle.text_laws.specs.Laws.Nets.{same_latches}

-- ---- the start content
same_front : (x y : Bool) (xs ys : List Bool) → ◌≡◌ {A = List Bool} (x ∷ xs) (y ∷ ys) → (x ≡ y) × (xs ≡ ys)
same_front x y xs ys same = (cc, cc)

same_both : (x y : Bool) (xs ys : List Bool) → x ≡ y → xs ≡ ys → ◌≡◌ {A = List Bool} (x ∷ xs) (y ∷ ys)
same_both x y xs ys head tail = cc

cut : (x y p q : List Bool) → length x ≡ length y → x ++ p ≡ y ++ q → (x ≡ y) × (p ≡ q)
cut [] [] p q size same = (refl, same)
cut [] (b ∷ y) p q size same = absurd (omega (arith, size))
cut (a ∷ x) [] p q size same = absurd (omega (arith, size))
cut (a ∷ x) (b ∷ y) p q size same =
    let parts = same_front a b (x ++ p) (y ++ q) same in
    let rest = cut x y p q (omega (arith, size)) parts.1 in
    (same_both a b x y parts.0 rest.0, rest.1)

bits_counted : (n : ℕ) (word : List (List Bool)) → All (λ x. length x ≡ n) word → length (bits_of word) ≡ length word * n
bits_counted n [] all = omega arith
bits_counted n (x ∷ word) all =
    let Long : List Bool → Type 0 = λ y. length y ≡ n in
    omega (arith, length-append x (bits_of word), All-head Long x word all, bits_counted n word (All-tail Long x word all), suc-mul (length word) n)

same_word_cons : (x y : List Bool) (xs ys : List (List Bool)) → x ≡ y → xs ≡ ys → ◌≡◌ {A = List (List Bool)} (x ∷ xs) (y ∷ ys)
same_word_cons x y xs ys head tail = cc

words_of_bits : (n : ℕ) (word other : List (List Bool)) → All (λ x. length x ≡ n) word → All (λ x. length x ≡ n) other → length word ≡ length other → bits_of word ≡ bits_of other → word ≡ other
words_of_bits n [] [] all also size same = refl
words_of_bits n [] (y ∷ other) all also size same = absurd (omega (arith, size))
words_of_bits n (x ∷ word) [] all also size same = absurd (omega (arith, size))
words_of_bits n (x ∷ word) (y ∷ other) all also size same =
    let Long : List Bool → Type 0 = λ z. length z ≡ n in
    let parts = cut x y (bits_of word) (bits_of other) (All-head Long x word all ∙ sym (All-head Long y other also)) same in
    same_word_cons x y word other parts.0 (words_of_bits n word other (All-tail Long x word all) (All-tail Long y other also) (omega (arith, size)) parts.1)

same_number : (p q : List Bool) → length p ≡ length q → number_of p ≡ number_of q → p ≡ q
same_number p q size same =
    sym (symbol_of-number_of p) ∙ ap (λ (n : ℕ). symbol_of n (number_of p)) size ∙ ap (symbol_of (length q)) same ∙ symbol_of-number_of q

start_once : (W : KissFile) (k : ℕ) (word other : List (List Bool)) → IsStartContent W k word → IsStartContent W k other → word ≡ other
start_once W k word other one two =
    let low : word_number word ≤ word_number other = one.least other two.content two.reset in
    let high : word_number other ≤ word_number word = two.least word one.content one.reset in
    let size : length word ≡ length other = one.content.count ∙ sym two.content.count in
    let long : length (bits_of word) ≡ length (bits_of other) =
    bits_counted W.inputs word one.content.symbols ∙ ap (λ (n : ℕ). n * W.inputs) size ∙ sym (bits_counted W.inputs other two.content.symbols) in
    words_of_bits W.inputs word other one.content.symbols two.content.symbols size (same_number (bits_of word) (bits_of other) long (omega (arith, low, high)))

-- ---- gates
same_gates : (gate other : Gate) → gate ≡ other → HasSameSignals gate other
same_gates gate other same = record { inputs = ap (λ (g : Gate). g.inputs) same; output = ap (λ (g : Gate). g.output) same; on = ap (λ (g : Gate). g.on) same }

-- what the gate of an output reads is determined
inputs_once : (W : KissFile) (k b : ℕ) (set more : ReadSet) → IsReadAfter W k b set → IsReadAfter W k b more → set.inputs ≡ more.inputs
inputs_once W k b set more one two =
    same_ascending set.inputs more.inputs one.inputs_ascend two.inputs_ascend
    (λ a. ((λ is. (two.inputs a).1 ((one.inputs a).0 is)), (λ is. (one.inputs a).1 ((two.inputs a).0 is))))

latches_once : (W : KissFile) (k b : ℕ) (set more : ReadSet) → IsReadAfter W k b set → IsReadAfter W k b more → set.latches ≡ more.latches
latches_once W k b set more one two =
    same_ascending set.latches more.latches one.latches_ascend two.latches_ascend
    (λ a. ((λ is. (two.latches a).1 ((one.latches a).0 is)), (λ is. (one.latches a).1 ((two.latches a).0 is))))

-- a number below k times n is that of some symbol and some bit
place : (k n i : ℕ) → i < k * n → (j : ℕ) × (r : ℕ) × (j < k) × (r < n) × (j * n + r ≡ i)
place zero n i lt = absurd (omega (arith, lt))
place (suc k) n i lt =
    elim (cases_lt i (k * n)) [
      | inl below ↦ let found = place k n i below in (found.0, found.1, omega (arith, found.2), found.3, found.4)
      | inr above ↦ (k, i - k * n, omega arith, omega (arith, lt, suc-mul k n, above), omega (arith, above))
    ]

module _ (W : KissFile) (k : ℕ) (names : SignalNames) (N M : Network) (one : IsRegister W k names N) (two : IsRegister W k names M) where
  same_output_gates : (b : ℕ) (gate other : Gate) → b < W.outputs → slice_get N.gates (k * W.inputs + b) ≡ Some gate → slice_get M.gates (k * W.inputs + b) ≡ Some other → HasSameSignals gate other
  same_output_gates b gate other lt there there_too =
      let (set, first, at, is) = one.outputs b lt in
      let (more, second, at_too, is_too) = two.outputs b lt in
      let same : gate ≡ first = same_Some gate first (sym there ∙ at) in
      let same_too : other ≡ second = same_Some other second (sym there_too ∙ at_too) in
      let listed : map (name_at names.inputs) set.inputs ++ map (name_at names.latch_outputs) set.latches ≡ map (name_at names.inputs) more.inputs ++ map (name_at names.latch_outputs) more.latches =
      ap (λ (list : List ℕ). map (name_at names.inputs) list ++ map (name_at names.latch_outputs) set.latches) (inputs_once W k b set more is.reads is_too.reads)
      ∙ ap (λ (list : List ℕ). map (name_at names.inputs) more.inputs ++ map (name_at names.latch_outputs) list) (latches_once W k b set more is.reads is_too.reads) in
      record {
        inputs = ap (λ (g : Gate). g.inputs) same ∙ is.inputs ∙ listed ∙ sym is_too.inputs ∙ ap (λ (g : Gate). g.inputs) (sym same_too);
        output = ap (λ (g : Gate). g.output) same ∙ is.output ∙ sym is_too.output ∙ ap (λ (g : Gate). g.output) (sym same_too);
        on = ap (λ (g : Gate). g.on) same ∙ is.on ∙ sym is_too.on ∙ ap (λ (g : Gate). g.on) (sym same_too);
      }

  taken : (i : ℕ) (signal : List ℕ) (gate other : Gate) → slice_get N.gates i ≡ Some (taking signal (name_at names.latch_inputs i)) → slice_get M.gates i ≡ Some (taking signal (name_at names.latch_inputs i))
      → slice_get N.gates i ≡ Some gate → slice_get M.gates i ≡ Some other → HasSameSignals gate other
  taken i signal gate other at at_too there there_too =
      let here : Gate = taking signal (name_at names.latch_inputs i) in
      same_gates gate other (same_Some gate here (sym there ∙ at) ∙ sym (same_Some other here (sym there_too ∙ at_too)))

  same_latch_gates : (j r i : ℕ) (gate other : Gate) → j < k → r < W.inputs → j * W.inputs + r ≡ i → slice_get N.gates i ≡ Some gate → slice_get M.gates i ≡ Some other → HasSameSignals gate other
  same_latch_gates zero r i gate other below within at there there_too =
      let same : r ≡ i = omega (arith, at) in
      let Takes : Network → ℕ → Type 0 = λ K n. slice_get K.gates n ≡ Some (taking (name_at names.inputs r) (name_at names.latch_inputs n)) in
      taken i (name_at names.inputs r) gate other (subst (Takes N) same (one.shifts.newest r within below)) (subst (Takes M) same (two.shifts.newest r within below)) there there_too
  same_latch_gates (suc j) r i gate other below within at there there_too =
      let same : (j + 1) * W.inputs + r ≡ i = omega (arith, at, suc-mul j W.inputs, add-mul j 1 W.inputs) in
      let Takes : Network → ℕ → Type 0 = λ K n. slice_get K.gates n ≡ Some (taking (name_at names.latch_outputs (j * W.inputs + r)) (name_at names.latch_inputs n)) in
      taken i (name_at names.latch_outputs (j * W.inputs + r)) gate other
      (subst (Takes N) same (one.shifts.older j r within (omega (arith, below)))) (subst (Takes M) same (two.shifts.older j r within (omega (arith, below)))) there there_too

  each_gate : (i : ℕ) (gate other : Gate) → slice_get N.gates i ≡ Some gate → slice_get M.gates i ≡ Some other → HasSameSignals gate other
  each_gate i gate other there there_too =
      elim (cases_lt i (k * W.inputs)) [
        | inl below ↦ let found = place k W.inputs i below in same_latch_gates found.0 found.1 i gate other found.2 found.3 found.4 there there_too
        | inr above ↦
            let b : ℕ = i - k * W.inputs in
            let same : i ≡ k * W.inputs + b = omega (arith, above) in
            same_output_gates b gate other (omega (arith, above, one.gate_count, slice_get_within N.gates i gate there))
            (subst (λ (n : ℕ). slice_get N.gates n ≡ Some gate) same there) (subst (λ (n : ℕ). slice_get M.gates n ≡ Some other) same there_too)
      ]

  pub equal_registers : EqualButForRows N M
  equal_registers =
      let (word, start, starts) = one.starts in
      let (more, start_too, starts_too) = two.starts in
      record {
        inputs = one.named.inputs ∙ sym two.named.inputs;
        outputs = one.named.outputs ∙ sym two.named.outputs;
        latches =
            same_latches N.latches M.latches (latch_values word) (one.named.latch_inputs ∙ sym two.named.latch_inputs) (one.named.latch_outputs ∙ sym two.named.latch_outputs) starts
            (subst (λ (w : List (List Bool)). AreStarts M.latches (latch_values w)) (sym (start_once W k word more start start_too)) starts_too);
        gates = zip_at HasSameSignals N.gates M.gates (one.gate_count ∙ sym two.gate_count) each_gate;
      }

-- ---- the networks of one file
module _ (reduce : Bool) (F W : KissFile) (k : ℕ) (names more : SignalNames) (comments others : List ℕ) (N M : Network) (one : IsShiftOf reduce F W k names comments N) (two : IsShiftOf reduce F W k more others M) where
  same_names : more ≡ names
  same_names = names_once F (k * W.inputs) more names two.own one.own

  differ : (comments ≡ others) × EqualButForRows N M
  differ = (one.told ∙ sym two.told, equal_registers W k names N M one.register (subst (λ (list : SignalNames). IsRegister W k list M) same_names two.register))

-- there is one work machine, and it has one order
pub registers_differ_in_rows : RegistersDifferInRows
registers_differ_in_rows reduce F made also (W, k, names, one) (V, j, more, two) =
    let same : V ≡ W = one_work reduce F V W two.work one.work in
    let here : IsShiftOf reduce F W j more also.comments also.network = subst (λ (machine : KissFile). IsShiftOf reduce F machine j more also.comments also.network) same two in
    let order : j ≡ k = order_once W j k here.order one.order in
    differ reduce F W k names more made.comments also.comments made.network also.network one (subst (λ (n : ℕ). IsShiftOf reduce F W n more also.comments also.network) order here)

-- ---- the texts
pub shift_rows_alone_differ : ShiftRowsAloneDiffer
shift_rows_alone_differ design reduce F text other (made, is, told) (also, is_too, told_too) =
    let both : (made.comments ≡ also.comments) × EqualButForRows made.network also.network = registers_differ_in_rows reduce F made also is is_too in (
      made.comments,
      record {
        network = made.network;
        other_network = also.network;
        one = told;
        two = subst (λ (list : List ℕ). IsNetworkText design list also.network other) (sym both.0) told_too;
        equal = both.1;
      },
    )
