-- Tests that a text is read as a network.
use Rattle.std.proofs.Common.{◌≡◌, ℕ, zero, suc, ◌&&◌, Bool, true, not, List, [], ◌∷◌, map, All, Contains, None, sym, subst, arith}
use Rattle.std.proofs.lemmas.List.Sorted.{IsPermutation-refl}
use Rattle.std.specs.List.{list_any}
use Rattle.std.specs.Str.{bytes_eq}
use Rattle.net_core.specs.declared.Gate.{Gate}
use Rattle.net_core.specs.declared.Latch.{Latch}
use Rattle.net_core.specs.declared.Network.{Network}
use Rattle.net_core.specs.Blif.{Blif}
use Rattle.net_core.specs.SoundNetwork.{IsOrdered, Sound, driven_by, drivers_of}
use Rattle.net_core.specs.Statements.{said_in, statements_of}
use Rattle.blif_in.specs.Text.{network_of, text_fault}
use Rattle.blif_in.proofs.Texts.{faultless_text}
use Rattle.blif_laws.proofs.Structures.{all_among, all_once, among, both, each_among, no_more, once, outside}

-- none of the names is one of these
abbrev none_among : List (List ℕ) → List (List ℕ) → Bool
none_among these [] = true
none_among these (name ∷ names) = not (list_any (bytes_eq name) these) && none_among these names

each_outside : (these names : List (List ℕ)) → none_among these names ≡ true → All (λ name. Contains these name → ⊥) names
each_outside these [] h k d lt = absurd (omega arith)
each_outside these (x ∷ xs) h zero d lt = outside x these (no_more (list_any (bytes_eq x) these) (both (not (list_any (bytes_eq x) these)) (none_among these xs) h).0)
each_outside these (x ∷ xs) h (suc k) d lt = each_outside these xs (both (not (list_any (bytes_eq x) these)) (none_among these xs) h).1 k d (omega arith)

-- each gate reads these names, and none that a gate drives
abbrev all_read : List (List ℕ) → List Gate → Bool
all_read these [] = true
all_read these (gate ∷ gates) = all_among these gate.inputs && all_read these gates

each_read : (these : List (List ℕ)) (gates : List Gate) → all_read these gates ≡ true → All (λ gate. All (Contains these) gate.inputs) gates
each_read these [] h k d lt = absurd (omega arith)
each_read these (g ∷ gs) h zero d lt = each_among these g.inputs (both (all_among these g.inputs) (all_read these gs) h).0
each_read these (g ∷ gs) h (suc k) d lt = each_read these gs (both (all_among these g.inputs) (all_read these gs) h).1 k d (omega arith)

abbrev all_apart : List (List ℕ) → List Gate → Bool
all_apart driven [] = true
all_apart driven (gate ∷ gates) = none_among driven gate.inputs && all_apart driven gates

ordered : (driven earlier : List (List ℕ)) (gates : List Gate) → all_apart driven gates ≡ true → IsOrdered driven earlier gates
ordered driven earlier [] h = tt
ordered driven earlier (g ∷ gs) h =
    let parts = both (none_among driven g.inputs) (all_apart driven gs) h in
    (λ k d lt is_driven. absurd (each_outside driven g.inputs parts.0 k d lt is_driven), ordered driven (g.output ∷ earlier) gs parts.1)

latches_among : (these : List (List ℕ)) (latches : List Latch) → all_among these (map (λ latch. latch.input) latches) ≡ true → All (λ latch. Contains these latch.input) latches
latches_among these [] h k d lt = absurd (omega arith)
latches_among these (l ∷ ls) h zero d lt = among l.input these (both (list_any (bytes_eq l.input) these) (all_among these (map (λ latch. latch.input) ls)) h).0
latches_among these (l ∷ ls) h (suc k) d lt = latches_among these ls (both (list_any (bytes_eq l.input) these) (all_among these (map (λ latch. latch.input) ls)) h).1 k d (omega arith)

-- a network whose gates read inputs and latch outputs alone
sound_from_test : (N : Network) → all_once (drivers_of N) ≡ true → all_among (drivers_of N) N.outputs ≡ true → all_among (drivers_of N) (map (λ latch. latch.input) N.latches) ≡ true
    → all_read (drivers_of N) N.gates ≡ true → all_apart (driven_by N.gates) N.gates ≡ true → Sound N
sound_from_test N single outputs latches reads apart =
    record {
      driven_once = once (drivers_of N) single;
      outputs = each_among (drivers_of N) N.outputs outputs;
      latch_inputs = latches_among (drivers_of N) N.latches latches;
      gate_inputs = each_read (drivers_of N) N.gates reads;
      order = (N.gates, IsPermutation-refl N.gates, ordered (driven_by N.gates) [] N.gates apart);
    }

-- the text has no fault, and its record is this network
pub read_from_test : (bytes : List ℕ) (N : Network) → text_fault (statements_of bytes) ≡ None → network_of (said_in bytes) ≡ N → all_once (drivers_of N) ≡ true → all_among (drivers_of N) N.outputs ≡ true → all_among (drivers_of N) (map (λ latch. latch.input) N.latches) ≡ true
    → all_read (drivers_of N) N.gates ≡ true → all_apart (driven_by N.gates) N.gates ≡ true → Blif bytes N
read_from_test bytes N faultless is single outputs latches reads apart =
    let text = (faultless_text bytes).denotes faultless in
    subst (Blif bytes) is
    (record {
      denotes = text.0;
      sound = subst Sound (sym is) (sound_from_test N single outputs latches reads apart);
      within = text.1;
    })
