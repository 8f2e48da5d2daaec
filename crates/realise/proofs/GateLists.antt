-- Gates that are added one by one, and the network of them.
use Rattle.std.proofs.Common.{◌≡◌, ℕ, zero, suc, ◌+◌, ◌<◌, ◌≤◌, inl, inr, Bool, true, false, Some, List, [], ◌∷◌, ◌++◌, length, map, get_or, slice_get, slice_index, take, All, ap, sym, ◌∙◌, subst, arith, length-append}
use Rattle.std.specs.Cmp.Lexicographic.{slice_cmp}
use Rattle.std.specs.List.Sorted.{IsSorted}
use Rattle.std.specs.Ordering.{nat_cmp}
use Rattle.std.proofs.lemmas.List.{length-take-le, take_all, take_more}
use Rattle.std.proofs.lemmas.Option.{get_or_from_slice_get, slice_get-get_or, slice_get_within}
use Rattle.list_facts.specs.Laws.Places.{get_behind, get_cases, get_first}
use Rattle.dependence.specs.declared.sets.ReadSet.{ReadSet}
use Rattle.dependence.specs.declared.sets.Reads.{Reads}
use Rattle.dependence.specs.Bit.{value_of}
use Rattle.dependence.specs.SufficientBits.{next_value, output_value}
use Rattle.gate_rows.specs.GateCovers.{IsGoodCover}
use Rattle.gate_rows.specs.Latches.{AreLatches}
use Rattle.gate_rows.specs.Laws.LatchNames.{listed_count}
use Rattle.kiss_file.specs.declared.file.KissFile.{KissFile}
use Rattle.net_core.specs.declared.Gate.{Gate}
use Rattle.net_core.specs.declared.Network.{Network}
use Rattle.net_core.specs.declared.SignalNames.{SignalNames}
use Rattle.dependence.specs.declared.bit.Bit.{Bit}
use Rattle.realise.specs.CodeNetwork.{AreEnough, IsGateFor, IsRealised, name_at}
use Rattle.realise.specs.Rows.{GivesAt}
use Rattle.realise.specs.Inner.AddedGates.{AddsGates, IsGateAt}
use Rattle.realise.specs.Inner.Lists.{width_of}

-- one gate more
module _ (F : KissFile) (words : List ℕ) (names : SignalNames) (value : ℕ → ℕ → List Bool → Bool) (outputs : List (List ℕ)) (sets : List ReadSet) (set : ReadSet) (old new : List Gate) (gate : Gate) (before : AddsGates F words names value outputs sets old new) (is : IsGateFor F words names set (value (length sets)) (name_at outputs (length sets)) gate) where
  gate_each : (i : ℕ) (other : ReadSet) → slice_get (sets ++ set ∷ []) i ≡ Some other → IsGateAt F words names (new ++ gate ∷ []) (length old + i) other (value i) (name_at outputs i)
  gate_each i other at =
      elim (get_cases sets (set ∷ []) i other at) [
        | inl first ↦
            let found = before.each i other first in
            (found.0, get_first new (gate ∷ []) (length old + i) found.0 found.1, found.2)
        | inr behind ↦ last i other behind.0 behind.1 behind.2
      ]
    where
      last : (i : ℕ) (other : ReadSet) (j : ℕ) → i ≡ length sets + j → slice_get (set ∷ []) j ≡ Some other → IsGateAt F words names (new ++ gate ∷ []) (length old + i) other (value i) (name_at outputs i)
      last i other (suc j) place at = absurd (cc)
      last i other zero place at =
          let same : set ≡ other = cc in
          let number : length sets ≡ i = omega arith in
          let there : length new + 0 ≡ length old + i = omega (arith, before.count, number) in (
            gate,
            sym (ap (λ (k : ℕ). slice_get (new ++ gate ∷ []) k) there) ∙ get_behind new (gate ∷ []) 0,
            subst (λ (s : ReadSet). IsGateFor F words names s (value i) (name_at outputs i) gate) same
                (subst (λ (k : ℕ). IsGateFor F words names set (value k) (name_at outputs k) gate) number is),
          )

  gates_whole : AddsGates F words names value outputs (sets ++ set ∷ []) old (new ++ gate ∷ [])
  gates_whole = record {
    count = omega (arith, before.count, length-append new (gate ∷ []), length-append sets (set ∷ []));
    kept = λ k kept at. get_first new (gate ∷ []) k kept (before.kept k kept at);
    each = gate_each;
  }

-- no gate yet
pub gates_none : (F : KissFile) (words : List ℕ) (names : SignalNames) (value : ℕ → ℕ → List Bool → Bool) (outputs : List (List ℕ)) (old : List Gate) → AddsGates F words names value outputs [] old old
gates_none F words names value outputs old = record {
  count = omega arith;
  kept = λ k gate at. at;
  each = λ i set at. absurd (omega (arith, slice_get_within [] i set at));
}

-- a gate for each of the first sets, and these are all
pub gates_all : (F : KissFile) (words : List ℕ) (names : SignalNames) (value : ℕ → ℕ → List Bool → Bool) (outputs : List (List ℕ)) (sets : List ReadSet) (old new : List Gate) (count : ℕ) → length sets ≤ count
    → AddsGates F words names value outputs (take count sets) old new → AddsGates F words names value outputs sets old new
gates_all F words names value outputs sets old new count all added =
    subst (λ (list : List ReadSet). AddsGates F words names value outputs list old new) (take_all count sets all) added

pub gates_more : (F : KissFile) (words : List ℕ) (names : SignalNames) (value : ℕ → ℕ → List Bool → Bool) (outputs : List (List ℕ)) (sets more : List ReadSet) (set : ReadSet) (old new pushed : List Gate) (gate : Gate) (i : ℕ) → more ≡ sets ++ set ∷ [] → length sets ≡ i
    → AddsGates F words names value outputs sets old new → IsGateFor F words names set (value i) (name_at outputs i) gate → pushed ≡ new ++ gate ∷ [] → AddsGates F words names value outputs more old pushed
gates_more F words names value outputs sets more set old new pushed gate i is_more count before is is_pushed =
    subst (AddsGates F words names value outputs more old) (sym is_pushed)
    (subst (λ (list : List ReadSet). AddsGates F words names value outputs list old (new ++ gate ∷ [])) (sym is_more)
    (gates_whole F words names value outputs sets set old new gate before
    (subst (λ (k : ℕ). IsGateFor F words names set (value k) (name_at outputs k) gate) (sym count) is)))

-- ---- the network
pub network_realised : (F : KissFile) (bits : ℕ) (words : List ℕ) (reads : Reads) (names : SignalNames) (N : Network) (none latch_gates gates : List Gate) → none ≡ [] → AreEnough F bits words reads
    → AddsGates F words names (next_value F words) names.latch_inputs reads.latches none latch_gates
    → AddsGates F words names (output_value F) names.outputs reads.outputs latch_gates gates
    → AreLatches names bits (slice_index words F.reset) N.latches → N.inputs ≡ names.inputs → N.outputs ≡ names.outputs → N.gates ≡ gates
    → IsRealised F bits words reads names N
network_realised F bits words reads names N none latch_gates gates is_none enough first behind latches inputs outputs same =
    let empty : length none ≡ 0 = ap length is_none in
    let count : length latch_gates ≡ bits = omega (arith, first.count, enough.latch_count, empty) in
    record {
      inputs = inputs;
      outputs = outputs;
      latch_inputs = latches.inputs;
      latch_outputs = latches.outputs;
      starts = latches.starts;
      gate_count = ap length same ∙ (omega (arith, behind.count, count, enough.output_count));
      latch_gates = λ i set at.
          let found = first.each i set at in
          let place : length none + i ≡ i = omega (arith, empty) in
          let there : slice_get latch_gates i ≡ Some found.0 = sym (ap (λ (k : ℕ). slice_get latch_gates k) place) ∙ found.1 in
          (found.0, ap (λ (list : List Gate). slice_get list i) same ∙ behind.kept i found.0 there, found.2);
      output_gates = λ b set at.
          let found = behind.each b set at in
          let place : bits + b ≡ length latch_gates + b = omega (arith, count) in
          (found.0, ap (λ (list : List Gate). slice_get list (bits + b)) same ∙ (ap (λ (k : ℕ). slice_get gates k) place ∙ found.1), found.2);
    }

-- ---- with the values of a call
-- the item of a loop, and the items up to it
pub item_there : {X : Type 0} (xs items : List X) (i : ℕ) (x : X) → items ≡ xs → i < length items → x ≡ get_or items i x → slice_get xs i ≡ Some x
item_there {X} xs items i x same inside is =
    subst (λ (list : List X). slice_get list i ≡ Some x) same (slice_get-get_or items i x inside ∙ ap (λ (y : X). Some y) (sym is))

pub item_numbered : {X : Type 0} (xs items : List X) (i number : ℕ) (x : X) → items ≡ xs → number ≡ i → i < length xs → x ≡ get_or items number x → slice_get xs i ≡ Some x
item_numbered {X} xs items i number x same at inside is =
    subst (λ (n : ℕ). slice_get xs n ≡ Some x) at (item_there xs items number x same (omega (arith, ap length same)) is)

pub items_more : {X : Type 0} (xs : List X) (i : ℕ) (x : X) → slice_get xs i ≡ Some x → take (i + 1) xs ≡ take i xs ++ x ∷ []
items_more {X} xs i x is = take_more xs i x (slice_get_within xs i x is) ∙ ap (λ (y : X). take i xs ++ y ∷ []) (get_or_from_slice_get xs i x x is)

pub items_count : {X : Type 0} (xs : List X) (i : ℕ) (x : X) → slice_get xs i ≡ Some x → length (take i xs) ≡ i
items_count xs i x is = length-take-le i xs (let lt = slice_get_within xs i x is in omega arith)

-- the gate of a good cover, whose rows are in order
pub gate_of : (F : KissFile) (words : List ℕ) (names : SignalNames) (set : ReadSet) (value : ℕ → List Bool → Bool) (name : List ℕ) (gate : Gate)
    → gate.on ≡ true → gate.output ≡ name → gate.inputs ≡ map (name_at names.inputs) set.inputs ++ map (name_at names.latch_outputs) set.latches
    → IsGoodCover (GivesAt F words set value true) (GivesAt F words set value false) gate.rows → All (λ row. length row ≡ width_of set) gate.rows
    → IsSorted (slice_cmp nat_cmp) gate.rows → IsGateFor F words names set value name gate
gate_of F words names set value name gate on output inputs cover widths in_order =
    record {
      inputs = inputs;
      output = output;
      on = on;
      cover = cover;
      widths = subst (λ (n : ℕ). All (λ row. length row ≡ n) gate.rows) (sym (listed_count names set.inputs set.latches gate.inputs inputs)) widths;
      in_order = in_order;
    }

pub bit_gate : (F : KissFile) (words used : List ℕ) (names : SignalNames) (set : ReadSet) (bit : Bit) (name : List ℕ) (gate : Gate)
    → gate.on ≡ true → gate.output ≡ name → gate.inputs ≡ map (name_at names.inputs) set.inputs ++ map (name_at names.latch_outputs) set.latches → used ≡ words
    → IsGoodCover (GivesAt F used set (value_of F used bit) true) (GivesAt F used set (value_of F used bit) false) gate.rows → All (λ row. length row ≡ width_of set) gate.rows
    → IsSorted (slice_cmp nat_cmp) gate.rows → IsGateFor F words names set (value_of F words bit) name gate
bit_gate F words used names set bit name gate on output inputs is_used cover widths in_order =
    gate_of F words names set (value_of F words bit) name gate on output inputs
    (subst (λ (list : List ℕ). IsGoodCover (GivesAt F list set (value_of F list bit) true) (GivesAt F list set (value_of F list bit) false) gate.rows) is_used cover) widths in_order
