-- Two networks of one code with the same read sets and names are equal but for the rows of their gates, also where they
-- are of two machines with the same outputs and the same reset state.
use Rattle.std.proofs.Common.{◌≡◌, ◌∙◌, ℕ, ◌+◌, ◌-◌, Bool, true, false, List, [], ◌∷◌, Some, length, map, slice_get, inl, inr, refl, sym, ap, subst, arith}
use Rattle.std.proofs.lemmas.Bool.{cases_lt}
use Rattle.std.proofs.lemmas.Option.{same_Some, slice_get_within}
use Rattle.list_facts.specs.Laws.Places.{item_at}
use Rattle.dependence.specs.declared.sets.ReadSet.{ReadSet}
use Rattle.dependence.specs.declared.sets.Reads.{Reads}
use Rattle.dependence.specs.SufficientBits.{next_value, output_value}
use Rattle.kiss_file.specs.declared.file.KissFile.{KissFile}
use Rattle.net_core.specs.declared.Gate.{Gate}
use Rattle.net_core.specs.declared.Latch.{Latch}
use Rattle.net_core.specs.declared.Network.{Network}
use Rattle.net_core.specs.declared.SignalNames.{SignalNames}
use Rattle.net_core.specs.declared.Start.{Start}
use Rattle.net_core.specs.declared.Start.TheVariants.{Zero, One, Free, Unknown}
use Rattle.net_core.specs.Step.{AreStarts, bit_of_start}
use Rattle.realise.specs.Codes.{code_of}
use Rattle.realise.specs.CodeNetwork.{HasGate, IsRealised, name_at}
use Rattle.text_laws.specs.Rows.{EqualButForRows, HasSameSignals}
use Rattle.decomposition.specs.Laws.Lists.{zip_at}

-- the start at a known bit
start_at : Bool → Start
start_at true = One
start_at false = Zero

known_start : (start : Start) (bit : Bool) → bit_of_start start ≡ Some bit → start ≡ start_at bit
unfolding start_at
known_start Zero true is = cc
known_start Zero false is = refl
known_start One true is = refl
known_start One false is = cc
known_start Free bit is = cc
known_start Unknown bit is = cc

same_start : (one other : Start) (bit : Bool) → bit_of_start one ≡ Some bit → bit_of_start other ≡ Some bit → one ≡ other
same_start one other bit is also = known_start one bit is ∙ sym (known_start other bit also)

same_latch : (a b c d : List ℕ) (s t : Start) → a ≡ b → c ≡ d → s ≡ t
    → ◌≡◌ {A = Latch} (record { input = a; output = c; start = s }) (record { input = b; output = d; start = t })
same_latch a b c d s t p q r = cc

cons_latch : (x y : Latch) (xs ys : List Latch) → x ≡ y → xs ≡ ys → ◌≡◌ {A = List Latch} (x ∷ xs) (y ∷ ys)
cons_latch x y xs ys head tail = cc

heads : {X : Type 0} (x y : X) (xs ys : List X) → ◌≡◌ {A = List X} (x ∷ xs) (y ∷ ys) → (x ≡ y) × (xs ≡ ys)
heads x y xs ys same = (cc, cc)

-- latches of the same names, with the same known starts
pub same_latches : (one other : List Latch) (bits : List Bool) → map (λ latch. latch.input) one ≡ map (λ latch. latch.input) other → map (λ latch. latch.output) one ≡ map (λ latch. latch.output) other
    → AreStarts one bits → AreStarts other bits → one ≡ other
same_latches [] [] bits inputs outputs starts also = refl
same_latches [] (y ∷ ys) bits inputs outputs starts also = cc
same_latches (x ∷ xs) [] bits inputs outputs starts also = cc
same_latches (x ∷ xs) (y ∷ ys) [] inputs outputs starts also = cc
same_latches (x ∷ xs) (y ∷ ys) (bit ∷ bits) inputs outputs starts also =
    let ins = heads x.input y.input (map (λ (latch : Latch). latch.input) xs) (map (λ (latch : Latch). latch.input) ys) inputs in
    let outs = heads x.output y.output (map (λ (latch : Latch). latch.output) xs) (map (λ (latch : Latch). latch.output) ys) outputs in
    let here = heads (bit_of_start x.start) (Some bit) (map (λ (latch : Latch). bit_of_start latch.start) xs) (map Some bits) starts in
    let there = heads (bit_of_start y.start) (Some bit) (map (λ (latch : Latch). bit_of_start latch.start) ys) (map Some bits) also in
    cons_latch x y xs ys
    (same_latch x.input y.input x.output y.output x.start y.start ins.0 outs.0 (same_start x.start y.start bit here.0 there.0))
    (same_latches xs ys bits ins.1 outs.1 here.1 there.1)

-- gates for one set and one name, whatever they give
same_signals : (E D : KissFile) (words : List ℕ) (names : SignalNames) (N M : Network) (at : ℕ) (set : ReadSet) (value given : ℕ → List Bool → Bool) (name : List ℕ) (gate other : Gate)
    → HasGate E words names N at set value name → HasGate D words names M at set given name → slice_get N.gates at ≡ Some gate → slice_get M.gates at ≡ Some other → HasSameSignals gate other
same_signals E D words names N M at set value given name gate other (one, there, is) (more, there_too, also) stands stands_too =
    let first : gate ≡ one = same_Some gate one (sym stands ∙ there) in
    let second : other ≡ more = same_Some other more (sym stands_too ∙ there_too) in
    record {
      inputs = ap (λ (g : Gate). g.inputs) first ∙ is.inputs ∙ sym also.inputs ∙ ap (λ (g : Gate). g.inputs) (sym second);
      output = ap (λ (g : Gate). g.output) first ∙ is.output ∙ sym also.output ∙ ap (λ (g : Gate). g.output) (sym second);
      on = ap (λ (g : Gate). g.on) first ∙ is.on ∙ sym also.on ∙ ap (λ (g : Gate). g.on) (sym second);
    }

module _ (E D : KissFile) (outputs : E.outputs ≡ D.outputs) (reset : E.reset ≡ D.reset) (bits : ℕ) (words : List ℕ) (sets : Reads) (names : SignalNames) (N M : Network)
    (latch_count : length sets.latches ≡ bits) (output_count : length sets.outputs ≡ E.outputs) (one : IsRealised E bits words sets names N) (other : IsRealised D bits words sets names M) where
  each_gate : (at : ℕ) (gate more : Gate) → slice_get N.gates at ≡ Some gate → slice_get M.gates at ≡ Some more → HasSameSignals gate more
  each_gate at gate more there there_too =
      elim (cases_lt at bits) [
        | inl low ↦
            let set = item_at sets.latches at (omega (arith, low, latch_count)) in
            same_signals E D words names N M at set.0 (next_value E words at) (next_value D words at) (name_at names.latch_inputs at) gate more
            (one.latch_gates at set.0 set.1) (other.latch_gates at set.0 set.1) there there_too
        | inr high ↦
            let b : ℕ = at - bits in
            let place : bits + (at - bits) ≡ at = omega (arith, high) in
            let set = item_at sets.outputs (at - bits) (omega (arith, high, output_count, one.gate_count, slice_get_within N.gates at gate there)) in
            same_signals E D words names N M at set.0 (output_value E (at - bits)) (output_value D (at - bits)) (name_at names.outputs (at - bits)) gate more
            (subst (λ (k : ℕ). HasGate E words names N k set.0 (output_value E (at - bits)) (name_at names.outputs (at - bits))) place (one.output_gates (at - bits) set.0 set.1))
            (subst (λ (k : ℕ). HasGate D words names M k set.0 (output_value D (at - bits)) (name_at names.outputs (at - bits))) place (other.output_gates (at - bits) set.0 set.1))
            there there_too
      ]

  pub as_many_gates : length N.gates ≡ length M.gates
  as_many_gates = one.gate_count ∙ ap (λ (n : ℕ). bits + n) outputs ∙ sym other.gate_count

  pub equal_nets : EqualButForRows N M
  equal_nets = record {
    inputs = one.inputs ∙ sym other.inputs;
    outputs = one.outputs ∙ sym other.outputs;
    latches =
        same_latches N.latches M.latches (code_of bits words E.reset) (one.latch_inputs ∙ sym other.latch_inputs) (one.latch_outputs ∙ sym other.latch_outputs)
        one.starts (subst (λ (state : ℕ). AreStarts M.latches (code_of bits words state)) (sym reset) other.starts);
    gates = zip_at HasSameSignals N.gates M.gates as_many_gates each_gate;
  }
