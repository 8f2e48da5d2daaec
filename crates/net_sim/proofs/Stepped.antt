-- A step of a network, from the signals in an order of evaluation.
use Rattle.std.proofs.Common.{◌≡◌, ℕ, zero, suc, ◌+◌, inl, inr, Bool, false, List, [], ◌∷◌, ◌++◌, Some, length, length-append, map, get_or, take, drop, slice_get, option_map, Contains, sym, ◌∙◌, ap, subst, arith, append_assoc}
use Rattle.std.specs.List.{AllByRecursion}
use Rattle.std.specs.Str.{bytes_eq}
use Rattle.std.proofs.lemmas.List.{get_or-map, length-map, map-append, get_or_append_left}
use Rattle.std.proofs.Math.Seq.{take-append_seam}
use Rattle.std.proofs.lemmas.Simd.{map-map}
use Rattle.std.proofs.lemmas.List.Elements.{Contains-append_cases, recursion_from_All}
use Rattle.std.proofs.lemmas.List.Sorted.{All-permutation, Contains-permutation, IsPermutation-map}
use Rattle.std.proofs.lemmas.Option.{get_or_from_slice_get, slice_get-get_or, slice_get-map, slice_get_within}
use Rattle.std.proofs.lemmas.Slice.Eq.{bytes_eq-Decides}
use Rattle.list_facts.specs.Laws.Members.{Contains-none}
use Rattle.list_facts.specs.Laws.Places.{get_first}
use Rattle.net_core.specs.declared.Gate.{Gate}
use Rattle.net_core.specs.declared.Network.{Network}
use Rattle.net_core.specs.declared.gate_order.Order.{Order}
use Rattle.net_core.specs.FlatNetwork.{base_of}
use Rattle.net_core.specs.Order.{AreAt, IsOrderOf}
use Rattle.net_core.specs.SoundNetwork.{HasOneValuation, Sound, driven_by, drivers_of}
use Rattle.net_core.specs.Step.{Gives, IsValuation, Step}
use Rattle.net_core.specs.Laws.Counted.{once_place}
use Rattle.net_core.specs.Laws.Valuations.{FitsGate, ReadsDriven, reads_driven, sound_one}
use Rattle.net_sim.specs.Inner.GateValues.{bits_at, evaluated}
use Rattle.net_sim.proofs.Known.{Knows, bits_known, evaluated_known}

pub slice_get-append_right : {X : Type 0} (xs ys : List X) (n i : ℕ) (x : X) → n ≡ length xs → slice_get ys i ≡ Some x → slice_get (xs ++ ys) (n + i) ≡ Some x
slice_get-append_right [] ys n i x is at =
    let same : n + i ≡ i = omega (arith, is) in
    ap (λ (k : ℕ). slice_get ys k) same ∙ at
slice_get-append_right (y ∷ xs) ys zero i x is at = absurd (omega arith)
slice_get-append_right (y ∷ xs) ys (suc n) i x is at =
    let next : suc n + i ≡ suc (n + i) = omega arith in
    ap (λ (k : ℕ). slice_get (y ∷ (xs ++ ys)) k) next ∙ slice_get-append_right xs ys n i x (omega arith) at

-- signals into which a symbol and then the latch values were written
pub put_both : (symbol state old one two : List Bool) → one ≡ take 0 old ++ (symbol ++ drop (0 + length symbol) old) → two ≡ take (length symbol) one ++ (state ++ drop (length symbol + length state) one) → two ≡ symbol ++ (state ++ drop (length symbol + length state) one)
put_both symbol state old one two first second =
    let front : take (length symbol) one ≡ symbol = ap (take (length symbol)) first ∙ take-append_seam symbol (drop (0 + length symbol) old) in
    second ∙ ap (λ bits. bits ++ (state ++ drop (length symbol + length state) one)) front

-- signals that were read where there was a place for each
pub read_in : (signals final bits : List Bool) (numbers given : List ℕ) (n : ℕ) → (length given ≡ n → bits ≡ bits_at signals given) → given ≡ numbers → length numbers ≡ n → signals ≡ final → bits ≡ bits_at final numbers
read_in signals final bits numbers given n read same long is =
    read (ap length same ∙ long) ∙ (ap (bits_at signals) same ∙ ap (λ list. bits_at list numbers) is)

module _ (N : Network) (sound : Sound N) where
  -- the inputs and the latch outputs stand first among the drivers
  pub drivers_split : drivers_of N ≡ base_of N ++ driven_by N.gates
  drivers_split = sym (append_assoc N.inputs (map (λ latch. latch.output) N.latches) (driven_by N.gates))

  pub count_base : length (base_of N) ≡ length N.inputs + length N.latches
  count_base = length-append N.inputs (map (λ latch. latch.output) N.latches) ∙ omega (arith, length-map N.latches (λ latch. latch.output))

  -- and then the output of each gate
  pub outputs_at : (base p : ℕ) (gate : Gate) → base ≡ length N.inputs + length N.latches → slice_get N.gates p ≡ Some gate → slice_get (drivers_of N) (base + p) ≡ Some gate.output
  outputs_at base p gate is at =
      ap (λ list. slice_get list (base + p)) drivers_split
      ∙ slice_get-append_right (base_of N) (driven_by N.gates) base p gate.output (is ∙ sym count_base)
      (slice_get-map (λ g. g.output) N.gates p ∙ ap (option_map (λ g. g.output)) at)

  module _ (state symbol : List Bool) (f : List ℕ → Bool) (valuation : IsValuation N state symbol f) where
    base_bits : map f (base_of N) ≡ symbol ++ state
    base_bits =
        map-append f N.inputs (map (λ latch. latch.output) N.latches)
        ∙ (ap (λ bits. bits ++ map f (map (λ latch. latch.output) N.latches)) valuation.inputs
        ∙ ap (λ bits. symbol ++ bits) (map-map f (λ latch. latch.output) N.latches ∙ valuation.latches))

    -- before a gate has its value
    pub base_known : (rest : List Bool) → Knows (drivers_of N) sound.driven_once f (symbol ++ (state ++ rest)) (base_of N)
    base_known rest s name at (k, lt, is) =
        let at_k : slice_get (drivers_of N) k ≡ Some name =
        ap (λ list. slice_get list k) drivers_split
        ∙ get_first (base_of N) (driven_by N.gates) k name (slice_get-get_or (base_of N) k name lt ∙ ap Some is) in
        let same : s ≡ k = once_place bytes_eq bytes_eq-Decides (drivers_of N) s k name sound.driven_once at at_k in
        let bits : symbol ++ (state ++ rest) ≡ map f (base_of N) ++ rest =
        sym (append_assoc symbol state rest) ∙ ap (λ list. list ++ rest) (sym base_bits) in
        ap (λ n. get_or (symbol ++ (state ++ rest)) n false) same
        ∙ (ap (λ list. get_or list k false) bits
        ∙ (get_or_append_left (map f (base_of N)) rest false k (omega (arith, length-map (base_of N) f))
        ∙ (get_or-map f (base_of N) k name false lt ∙ ap f is)))

  module _ (order : Order) (is : IsOrderOf N order) (state symbol rest : List Bool) (same_inputs : length symbol ≡ length N.inputs) (same_latches : length state ≡ length N.latches) (long : length (symbol ++ (state ++ rest)) ≡ length (drivers_of N)) where
    abbrev pub final : List Bool
    final = evaluated (order.input_count + order.latch_count) order.gates.items order.sequence.items (symbol ++ (state ++ rest))

    -- when all gates have their values, each signal has the bit of its name
    pub all_known : (f : List ℕ → Bool) → IsValuation N state symbol f → (s : ℕ) (name : List ℕ) → slice_get (drivers_of N) s ≡ Some name → get_or final s false ≡ f name
    all_known f valuation s name at =
        let (gates, places_at, moved, ordered) = is.sequence in
        let base : ℕ = order.input_count + order.latch_count in
        let base_is : base ≡ length N.inputs + length N.latches = omega (arith, is.inputs, is.latches) in
        let fits : AllByRecursion (FitsGate f) gates =
        recursion_from_All (FitsGate f) gates (All-permutation (FitsGate f) N.gates gates moved valuation.gates) in
        let reads : AllByRecursion (ReadsDriven (base_of N) (driven_by N.gates)) gates =
        recursion_from_All (ReadsDriven (base_of N) (driven_by N.gates)) gates (All-permutation (ReadsDriven (base_of N) (driven_by N.gates)) N.gates gates moved (reads_driven N sound)) in
        let known =
        evaluated_known (drivers_of N) sound.driven_once f base N.gates order.gates.items is.gates (λ p gate. outputs_at base p gate base_is) (base_of N) (driven_by N.gates)
        order.sequence.items gates [] (symbol ++ (state ++ rest)) long places_at fits reads ordered (base_known state symbol f valuation rest)
        (λ n name is_n none. absurd (Contains-none name none)) in
        let among : Contains (base_of N ++ driven_by N.gates) name =
        subst (λ list. Contains list name) drivers_split (s, slice_get_within (drivers_of N) s name at, get_or_from_slice_get (drivers_of N) s name name at) in
        elim (Contains-append_cases (base_of N) (driven_by N.gates) name among) [
          | inl in_base ↦ known.of_base s name at in_base
          | inr in_gates ↦
              known.of_gates s name at (Contains-permutation (driven_by N.gates) (driven_by gates) name (IsPermutation-map (λ gate. gate.output) N.gates gates moved) in_gates)
        ]

    bits_of : (f : List ℕ → Bool) → IsValuation N state symbol f → (numbers : List ℕ) (names : List (List ℕ)) → AreAt (drivers_of N) numbers names → map f names ≡ bits_at final numbers
    bits_of f valuation numbers names at =
        sym (bits_known (drivers_of N) sound.driven_once f final numbers names at (λ s name is_s among. all_known f valuation s name is_s))

    gives : (answer next : List Bool) → answer ≡ bits_at final order.output_signals.items → next ≡ bits_at final order.latch_signals.items → (f : List ℕ → Bool) → IsValuation N state symbol f → Gives N f answer next
    gives answer next is_answer is_next f valuation =
        record {
          outputs = bits_of f valuation order.output_signals.items N.outputs is.outputs ∙ sym is_answer;
          latch_inputs =
              sym (map-map f (λ latch. latch.input) N.latches)
              ∙ (bits_of f valuation order.latch_signals.items (map (λ latch. latch.input) N.latches) is.latch_inputs ∙ sym is_next);
        }

    pub stepped : (answer next : List Bool) → answer ≡ bits_at final order.output_signals.items → next ≡ bits_at final order.latch_signals.items → Step N state symbol answer next
    stepped answer next is_answer is_next =
        let one : HasOneValuation N state symbol = sound_one N state symbol sound same_inputs same_latches in
        record {
          some = (one.some.0, one.some.1, gives answer next is_answer is_next one.some.0 one.some.1);
          every = gives answer next is_answer is_next;
        }
