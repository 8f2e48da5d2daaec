-- In a sound network there is one valuation of the driven names.
use Rattle.std.proofs.Common.{◌≡◌, ℕ, ◌+◌, ◌≤◌, ◌⊎◌, inl, inr, Bool, true, false, cond, List, [], ◌∷◌, ◌++◌, length, length-append, map, get_or, All, Contains, sym, ◌∙◌, refl, ap, subst, arith}
use Rattle.std.specs.List.{AllByRecursion}
use Rattle.std.specs.Str.{bytes_eq}
use Rattle.net_core.specs.declared.Gate.{Gate}
use Rattle.net_core.specs.declared.Network.{Network}
use Rattle.net_core.specs.Step.{gate_value, IsValuation}
use Rattle.net_core.specs.SoundNetwork.{driven_by, drivers_of, IsOrdered, Sound, SoundIsDetermined}
use Rattle.net_core.specs.Laws.Members.{Agree, is_same_name, map_same, times, times-append, times-cons, times-some}
use Rattle.std.proofs.lemmas.List.{length-map, map-append}
use Rattle.std.proofs.lemmas.Simd.{map-map}
use Rattle.std.proofs.lemmas.List.Elements.{All-contains, Contains-append_cases, Contains-append_left, Contains-append_right, recursion_from_All, All-from_recursion}
use Rattle.std.proofs.lemmas.List.Sorted.{All-permutation, Contains-permutation, IsPermutation-map, IsPermutation-sym, sum_by-IsPermutation}
use Rattle.list_facts.specs.Laws.Members.{Contains-cons, Contains-none, agree_from_map}

-- the gate has the value of its inputs
abbrev pub FitsGate : (List ℕ → Bool) → Gate → Type 0
FitsGate value gate = value gate.output ≡ gate_value gate (map value gate.inputs)

-- the inputs of the gate are of the base, or gates drive them
abbrev pub ReadsDriven : List (List ℕ) → List (List ℕ) → Gate → Type 0
ReadsDriven base driven gate = (name : List ℕ) → Contains gate.inputs name → Contains base name ⊎ Contains driven name

-- two valuations that agree on the base agree on what gates drive, gate by gate in order
pub agree_on_gates :
    (base driven earlier : List (List ℕ)) (f g : List ℕ → Bool) (gates : List Gate) →
    Agree f g base → Agree f g earlier → AllByRecursion (FitsGate f) gates → AllByRecursion (FitsGate g) gates →
    AllByRecursion (ReadsDriven base driven) gates → IsOrdered driven earlier gates → Agree f g (driven_by gates)
agree_on_gates base driven earlier f g [] on_base on_earlier fits_f fits_g reads ordered name h = absurd (Contains-none name h)
agree_on_gates base driven earlier f g (gate ∷ gates) on_base on_earlier (fit_f, fits_f) (fit_g, fits_g) (read, reads) (first, ordered) name h =
    let inputs : Agree f g gate.inputs =
    λ input among.
    elim (read input among) [
      | inl is_base ↦ on_base input is_base
      | inr is_driven ↦ on_earlier input (All-contains (λ n. Contains driven n → Contains earlier n) gate.inputs input first among is_driven)
    ] in
    let output : f gate.output ≡ g gate.output = fit_f ∙ (ap (gate_value gate) (map_same f g gate.inputs inputs) ∙ sym fit_g) in
    let more : Agree f g (gate.output ∷ earlier) =
    λ n k. elim (Contains-cons gate.output n earlier k) [ inl here ↦ subst (λ m. f m ≡ g m) here output | inr there ↦ on_earlier n there ] in
    elim (Contains-cons gate.output name (driven_by gates) h) [
      | inl here ↦ subst (λ m. f m ≡ g m) here output
      | inr there ↦ agree_on_gates base driven (gate.output ∷ earlier) f g gates on_base more fits_f fits_g reads ordered name there
    ]

-- a test that counts nothing fails
pub unless_counted : (test : Bool) (n : ℕ) → cond test 1 0 + n ≡ 0 → test ≡ false
unless_counted true n none = absurd (omega arith)
unless_counted false n none = refl

-- a name that stands in the rest is not the first where no name stands twice
pub other_name : (name first : List ℕ) (rest : List (List ℕ)) → times name (first ∷ rest) ≤ 1 → Contains rest name → bytes_eq name first ≡ false
other_name name first rest once among =
    let split = times-cons name first rest in
    let some = times-some name rest among in
    unless_counted (bytes_eq name first) 0 (omega (arith, split, some, once))

-- the value of a name, by its place in a list of names
abbrev pub read_at : List (List ℕ) → List Bool → List ℕ → Bool
read_at (m ∷ ms) (b ∷ bs) name = cond (bytes_eq name m) b (read_at ms bs name)
read_at _ _ name = false

-- a list where no name stands twice is read in order
pub map-read_at : (names : List (List ℕ)) (bits : List Bool) → length bits ≡ length names → ((name : List ℕ) → times name names ≤ 1) → map (read_at names bits) names ≡ bits
map-read_at [] [] same once = refl
map-read_at [] (b ∷ bs) same once = absurd (omega arith)
map-read_at (m ∷ ms) [] same once = absurd (omega arith)
map-read_at (m ∷ ms) (b ∷ bs) same once =
    let f : List ℕ → Bool = read_at (m ∷ ms) (b ∷ bs) in
    let first : f m ≡ b = ap (λ t. cond t b (read_at ms bs m)) (is_same_name m m refl) in
    let others : Agree f (read_at ms bs) ms =
    λ name among. ap (λ t. cond t b (read_at ms bs name)) (other_name name m ms (once name) among) in
    let later : map (read_at ms bs) ms ≡ bs =
    map-read_at ms bs (omega arith) (λ name. omega (arith, once name, times-cons name m ms)) in
    ap (λ c. c ∷ map f ms) first ∙ ap (λ cs. b ∷ cs) (map_same f (read_at ms bs) ms others ∙ later)

-- the value after a gate's output got its value
abbrev pub updated : (List ℕ → Bool) → Gate → List ℕ → Bool
updated value gate name = cond (bytes_eq name gate.output) (gate_value gate (map value gate.inputs)) (value name)

-- and after all gates got theirs, in order
abbrev pub extended : (List ℕ → Bool) → List Gate → List ℕ → Bool
extended value [] = value
extended value (gate ∷ gates) = extended (updated value gate) gates

-- a name that no gate drives keeps its value
pub extended-kept : (value : List ℕ → Bool) (gates : List Gate) (name : List ℕ) → times name (driven_by gates) ≡ 0 → extended value gates name ≡ value name
extended-kept value [] name none = refl
extended-kept value (gate ∷ gates) name none =
    let split = times-cons name gate.output (driven_by gates) in
    let apart : bytes_eq name gate.output ≡ false = unless_counted (bytes_eq name gate.output) (times name (driven_by gates)) (sym split ∙ none) in
    extended-kept (updated value gate) gates name (omega (arith, split, none)) ∙ ap (λ t. cond t (gate_value gate (map value gate.inputs)) (value name)) apart

-- each gate has the value of its inputs in the end
pub extended_fits :
    (base driven earlier : List (List ℕ)) (value : List ℕ → Bool) (gates : List Gate) →
    ((name : List ℕ) → (times name base + times name earlier) + times name (driven_by gates) ≤ 1) →
    AllByRecursion (ReadsDriven base driven) gates → IsOrdered driven earlier gates → AllByRecursion (FitsGate (extended value gates)) gates
extended_fits base driven earlier value [] once reads ordered = tt
extended_fits base driven earlier value (gate ∷ gates) once (read, reads) (first, ordered) =
    let f : List ℕ → Bool = extended value (gate ∷ gates) in
    let counted : ◌≡◌ {A = ℕ} (cond (bytes_eq gate.output gate.output) 1 0) 1 = ap (λ t. cond t 1 0) (is_same_name gate.output gate.output refl) in
    let none : times gate.output (driven_by gates) ≡ 0 =
    omega (arith, once gate.output, times-cons gate.output gate.output (driven_by gates), counted) in
    let output : f gate.output ≡ gate_value gate (map value gate.inputs) =
    extended-kept (updated value gate) gates gate.output none ∙ ap (λ t. cond t (gate_value gate (map value gate.inputs)) (value gate.output)) (is_same_name gate.output gate.output refl) in
    let inputs : Agree value f gate.inputs =
    λ name among.
    let some : 1 ≤ times name base + times name earlier =
    elim (read name among) [
      | inl is_base ↦ omega (arith, times-some name base is_base)
      | inr is_driven ↦ omega (arith, times-some name earlier (All-contains (λ n. Contains driven n → Contains earlier n) gate.inputs name first among is_driven))
    ] in
    sym (extended-kept value (gate ∷ gates) name (omega (arith, some, once name))) in (
      output ∙ ap (gate_value gate) (map_same value f gate.inputs inputs),
      extended_fits base driven (gate.output ∷ earlier) (updated value gate) gates
          (λ name. omega (arith, once name, times-cons name gate.output earlier, times-cons name gate.output (driven_by gates))) reads ordered,
    )

-- what each gate of a sound network reads is an input or a latch output, or gates drive it
pub reads_driven : (N : Network) → Sound N → All (ReadsDriven (N.inputs ++ map (λ latch. latch.output) N.latches) (driven_by N.gates)) N.gates
reads_driven N s k d lt name among =
    let outs = map (λ latch. latch.output) N.latches in
    elim (Contains-append_cases N.inputs (outs ++ driven_by N.gates) name (All-contains (Contains (drivers_of N)) (get_or N.gates k d).inputs name (s.gate_inputs k d lt) among)) [
      | inl input ↦ inl (Contains-append_left N.inputs outs name input)
      | inr rest ↦ elim (Contains-append_cases outs (driven_by N.gates) name rest) [
        | inl latch ↦ inl (Contains-append_right N.inputs outs name latch)
        | inr gate ↦ inr gate
      ]
    ]

-- no name stands twice among the base and what the gates drive in order
pub once_in_order : (N : Network) (s : Sound N) (name : List ℕ) → (times name (N.inputs ++ map (λ latch. latch.output) N.latches) + times name []) + times name (driven_by s.order.0) ≤ 1
once_in_order N s name =
    let outs = map (λ latch. latch.output) N.latches in
    let whole = times-append name N.inputs (outs ++ driven_by N.gates) in
    let rest = times-append name outs (driven_by N.gates) in
    let base = times-append name N.inputs outs in
    let moved = sum_by-IsPermutation (λ x. cond (bytes_eq name x) 1 0) (driven_by N.gates) (driven_by s.order.0) (IsPermutation-map (λ gate. gate.output) N.gates s.order.0 s.order.1) in
    omega (arith, s.driven_once name, whole, rest, base, moved)

-- lists that are equal when joined are equal where their fronts have one length
pub parts_of_append : (xs ys us vs : List Bool) → xs ++ ys ≡ us ++ vs → length xs ≡ length us → (xs ≡ us) × (ys ≡ vs)
parts_of_append [] ys [] vs same n = (refl, same)
parts_of_append [] ys (u ∷ us) vs same n = absurd (omega arith)
parts_of_append (x ∷ xs) ys [] vs same n = absurd (omega arith)
parts_of_append (x ∷ xs) ys (u ∷ us) vs same n =
    let first : x ≡ u = cc in
    let later : xs ++ ys ≡ us ++ vs = cc in
    let rest = parts_of_append xs ys us vs later (omega arith) in
    (ap (λ z. z ∷ xs) first ∙ ap (λ zs. u ∷ zs) rest.0, rest.1)

-- two valuations agree on the inputs and on the latch outputs
pub agree_on_base : (N : Network) (state symbol : List Bool) (f g : List ℕ → Bool) → IsValuation N state symbol f → IsValuation N state symbol g → Agree f g (N.inputs ++ map (λ latch. latch.output) N.latches)
agree_on_base N state symbol f g is_f is_g name among =
    let outs = map (λ latch. latch.output) N.latches in
    let on_outs : map f outs ≡ map g outs =
    map-map f (λ latch. latch.output) N.latches ∙ (is_f.latches ∙ (sym is_g.latches ∙ sym (map-map g (λ latch. latch.output) N.latches))) in
    elim (Contains-append_cases N.inputs outs name among) [
      | inl input ↦ agree_from_map f g N.inputs (is_f.inputs ∙ sym is_g.inputs) name input
      | inr latch ↦ agree_from_map f g outs on_outs name latch
    ]

pub sound_one : SoundIsDetermined
sound_one N state symbol s same_inputs same_latches =
    let outs = map (λ latch. latch.output) N.latches in
    let base = N.inputs ++ outs in
    let driven = driven_by N.gates in
    let order = s.order.0 in
    let reads : AllByRecursion (ReadsDriven base driven) order =
    recursion_from_All (ReadsDriven base driven) order (All-permutation (ReadsDriven base driven) N.gates order s.order.1 (reads_driven N s)) in
    let value0 : List ℕ → Bool = read_at base (symbol ++ state) in
    let value : List ℕ → Bool = extended value0 order in
    let whole : map value0 base ≡ symbol ++ state =
    map-read_at base (symbol ++ state)
    (length-append symbol state ∙ (omega (arith, same_inputs, same_latches, length-append N.inputs outs, length-map N.latches (λ latch. latch.output))))
    (λ name. omega (arith, once_in_order N s name)) in
    let kept : Agree value value0 base =
    λ name among. extended-kept value0 order name (omega (arith, once_in_order N s name, times-some name base among)) in
    let on_base : map value base ≡ symbol ++ state = map_same value value0 base kept ∙ whole in
    let parts = parts_of_append (map value N.inputs) (map value outs) symbol state (sym (map-append value N.inputs outs) ∙ on_base) (length-map N.inputs value ∙ sym same_inputs) in
    let fits : AllByRecursion (FitsGate value) order = extended_fits base driven [] value0 order (once_in_order N s) reads s.order.2 in
    record {
      some = (
        value,
        record {
          inputs = parts.0;
          latches = sym (map-map value (λ latch. latch.output) N.latches) ∙ parts.1;
          gates = All-permutation (FitsGate value) order N.gates (IsPermutation-sym N.gates order s.order.1) (All-from_recursion (FitsGate value) order fits);
        },
      );
      once = λ f g is_f is_g name among.
          let on : Agree f g base = agree_on_base N state symbol f g is_f is_g in
          let on_gates : Agree f g (driven_by order) =
          agree_on_gates base driven [] f g order on (λ n none. absurd (Contains-none n none))
          (recursion_from_All (FitsGate f) order (All-permutation (FitsGate f) N.gates order s.order.1 is_f.gates))
          (recursion_from_All (FitsGate g) order (All-permutation (FitsGate g) N.gates order s.order.1 is_g.gates))
          reads s.order.2 in
          elim (Contains-append_cases N.inputs (outs ++ driven) name among) [
            | inl input ↦ on name (Contains-append_left N.inputs outs name input)
            | inr rest ↦ elim (Contains-append_cases outs driven name rest) [
              | inl latch ↦ on name (Contains-append_right N.inputs outs name latch)
              | inr gate ↦ on_gates name (Contains-permutation driven (driven_by order) name (IsPermutation-map (λ gate. gate.output) N.gates order s.order.1) gate)
            ]
          ];
    }
