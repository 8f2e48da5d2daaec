-- Signals that have the bits of a valuation, as far as gates have got their values.
use Rattle.std.proofs.Common.{◌≡◌, ℕ, zero, suc, ◌+◌, ◌<◌, inl, inr, Bool, false, not, cond, List, [], ◌∷◌, Some, length, map, get_or, set, slice_get, Contains, refl, sym, ◌∙◌, ap, subst, arith}
use Rattle.std.specs.List.{AllByRecursion, AllZip, list_any}
use Rattle.std.specs.Str.{bytes_eq}
use Rattle.std.proofs.lemmas.Bool.{cases_eq}
use Rattle.std.proofs.lemmas.Slice.Eq.{bytes_eq-Decides}
use Rattle.std.proofs.lemmas.List.{get_or-set_other, get_or-set_same, length-set}
use Rattle.std.proofs.lemmas.List.Elements.{All-contains}
use Rattle.std.proofs.lemmas.Option.{same_Some, none-some, slice_get_within}
use Rattle.list_facts.specs.Laws.Members.{Contains-cons, Contains-here, Contains-none, Contains-there}
use Rattle.net_core.specs.declared.Gate.{Gate}
use Rattle.net_core.specs.declared.gate_order.NumberedGate.{NumberedGate}
use Rattle.net_core.specs.Causes.{AreOnce}
use Rattle.net_core.specs.Order.{AreAt, IsNumbered}
use Rattle.net_core.specs.SoundNetwork.{IsOrdered, driven_by}
use Rattle.net_core.specs.Step.{gate_value, row_holds}
use Rattle.net_core.specs.Laws.Counted.{once_place}
use Rattle.net_core.specs.Laws.Valuations.{FitsGate, ReadsDriven}
use Rattle.net_sim.specs.Inner.GateValues.{bits_at, evaluated, value_at, with_value}

-- of two lists of which the items belong together, the item of the one at a place and that of the other
pub zip_get : {A B : Type 0} (R : A → B → Type 0) (xs : List A) (ys : List B) (i : ℕ) (x : A) → AllZip R xs ys → slice_get xs i ≡ Some x → (y : B) × (slice_get ys i ≡ Some y) × R x y
zip_get R [] ys i x zip at = absurd (none-some x at)
zip_get R (a ∷ xs) [] i x zip at = absurd zip
zip_get R (a ∷ xs) (b ∷ ys) zero x (here, zip) at = (b, refl, subst (λ z. R z b) (same_Some a x at) here)
zip_get R (a ∷ xs) (b ∷ ys) (suc i) x (here, zip) at = zip_get R xs ys i x zip at

-- the value of a gate by its rows and its bit
abbrev value_by : List Bool → List (List ℕ) → Bool → Bool
value_by bits rows on = cond (list_any (λ row. row_holds row bits) rows) on (not on)

-- a numbered gate has the value of its gate where the signals of its inputs have the bits of their names
pub value_numbered : (drivers : List (List ℕ)) (f : List ℕ → Bool) (signals : List Bool) (gate : Gate) (numbered : NumberedGate) → IsNumbered drivers gate numbered → bits_at signals numbered.inputs.items ≡ map f gate.inputs → value_at signals numbered ≡ gate_value gate (map f gate.inputs)
value_numbered drivers f signals gate numbered is same =
    ap (λ bits. value_by bits numbered.rows numbered.on) same
    ∙ (ap (λ rows. value_by (map f gate.inputs) rows numbered.on) is.rows ∙ ap (λ on. value_by (map f gate.inputs) gate.rows on) is.on)

module _ (drivers : List (List ℕ)) (once : AreOnce drivers) (f : List ℕ → Bool) where
  -- the signals of these names have the bits of the names
  abbrev pub Knows : List Bool → List (List ℕ) → Type 0
  Knows signals names = (s : ℕ) (name : List ℕ) → slice_get drivers s ≡ Some name → Contains names name → get_or signals s false ≡ f name

  pub bits_known : (signals : List Bool) (numbers : List ℕ) (names : List (List ℕ)) → AreAt drivers numbers names → Knows signals names → bits_at signals numbers ≡ map f names
  bits_known signals [] [] at knows = refl
  bits_known signals [] (m ∷ ms) at knows = absurd at
  bits_known signals (n ∷ ns) [] at knows = absurd at
  bits_known signals (n ∷ ns) (m ∷ ms) (here, at) knows =
      ap (λ b. b ∷ bits_at signals ns) (knows n m here (Contains-here m ms))
      ∙ ap (λ bs. f m ∷ bs) (bits_known signals ns ms at (λ s name is among. knows s name is (Contains-there m name ms among)))

  -- what is known stays known when a signal gets the bit of its name
  pub known_kept : (signals : List Bool) (names : List (List ℕ)) (t : ℕ) (output : List ℕ) (v : Bool) → slice_get drivers t ≡ Some output → v ≡ f output → t < length signals → Knows signals names → Knows (set signals t v) names
  known_kept signals names t output v at is lt knows s name at_name among =
      elim (cases_eq s t) [
        | inl same ↦
            let one : output ≡ name = same_Some output name (sym at ∙ (ap (slice_get drivers) (sym same) ∙ at_name)) in
            ap (λ n. get_or (set signals t v) n false) same ∙ (get_or-set_same signals t v false lt ∙ (is ∙ ap f one))
        | inr other ↦ get_or-set_other signals t s v false other ∙ knows s name at_name among
      ]

  -- and that name is known besides
  pub known_more : (signals : List Bool) (names : List (List ℕ)) (t : ℕ) (output : List ℕ) (v : Bool) → slice_get drivers t ≡ Some output → v ≡ f output → t < length signals → Knows signals names → Knows (set signals t v) (output ∷ names)
  known_more signals names t output v at is lt knows s name at_name among =
      elim (Contains-cons output name names among) [
        | inl here ↦
            let same : s ≡ t = once_place bytes_eq bytes_eq-Decides drivers s t name once at_name (at ∙ ap Some here) in
            ap (λ n. get_or (set signals t v) n false) same ∙ (get_or-set_same signals t v false lt ∙ (is ∙ ap f here))
        | inr there ↦ known_kept signals names t output v at is lt knows s name at_name there
      ]

  module _ (base : ℕ) (all : List Gate) (numbered : List NumberedGate) (zip : AllZip (IsNumbered drivers) all numbered) (outputs_at : (p : ℕ) (gate : Gate) → slice_get all p ≡ Some gate → slice_get drivers (base + p) ≡ Some gate.output) (bases driven : List (List ℕ)) where
    -- what is known when the gates at these places got their values
    pub record Known (signals : List Bool) (earlier gates : List (List ℕ)) : Type 0 where
      pub of_base : Knows signals bases
      pub of_earlier : Knows signals earlier
      pub of_gates : Knows signals gates

    pub evaluated_known :
        (places : List ℕ) (gates : List Gate) (earlier : List (List ℕ)) (signals : List Bool) → length signals ≡ length drivers →
        AreAt all places gates → AllByRecursion (FitsGate f) gates → AllByRecursion (ReadsDriven bases driven) gates → IsOrdered driven earlier gates →
        Knows signals bases → Knows signals earlier → Known (evaluated base numbered places signals) earlier (driven_by gates)
    evaluated_known [] [] earlier signals long at fits reads ordered on_base on_earlier =
        record { of_base = on_base; of_earlier = on_earlier; of_gates = λ s name is none. absurd (Contains-none name none) }
    evaluated_known [] (g ∷ gates) earlier signals long at fits reads ordered on_base on_earlier = absurd at
    evaluated_known (p ∷ places) [] earlier signals long at fits reads ordered on_base on_earlier = absurd at
    evaluated_known (p ∷ places) (g ∷ gates) earlier signals long (here, at) (fit, fits) (read, reads) (first, ordered) on_base on_earlier =
        let (n, at_n, is) = zip_get (IsNumbered drivers) all numbered p g zip here in
        let knows : Knows signals g.inputs =
        λ s name at_name among.
        elim (read name among) [
          | inl is_base ↦ on_base s name at_name is_base
          | inr is_driven ↦ on_earlier s name at_name (All-contains (λ m. Contains driven m → Contains earlier m) g.inputs name first among is_driven)
        ] in
        let value : value_at signals n ≡ f g.output =
        value_numbered drivers f signals g n is (bits_known signals n.inputs.items g.inputs is.inputs knows) ∙ sym fit in
        let at_output : slice_get drivers (base + p) ≡ Some g.output = outputs_at p g here in
        let within : base + p < length signals = omega (arith, slice_get_within drivers (base + p) g.output at_output) in
        let after : List Bool = set signals (base + p) (value_at signals n) in
        let rest : Known (evaluated base numbered places after) (g.output ∷ earlier) (driven_by gates) =
        evaluated_known places gates (g.output ∷ earlier) after (length-set signals (base + p) (value_at signals n) ∙ long) at fits reads ordered
        (known_kept signals bases (base + p) g.output (value_at signals n) at_output value within on_base)
        (known_more signals earlier (base + p) g.output (value_at signals n) at_output value within on_earlier) in
        subst (λ o. Known (evaluated base numbered places (with_value signals (base + p) o)) earlier (driven_by (g ∷ gates))) (sym at_n)
        (record {
          of_base = rest.of_base;
          of_earlier = λ s name is_name among. rest.of_earlier s name is_name (Contains-there g.output name earlier among);
          of_gates = λ s name is_name among.
              elim (Contains-cons g.output name (driven_by gates) among) [
                | inl here ↦ rest.of_earlier s name is_name (subst (Contains (g.output ∷ earlier)) here (Contains-here g.output earlier))
                | inr there ↦ rest.of_gates s name is_name there
              ];
        })
