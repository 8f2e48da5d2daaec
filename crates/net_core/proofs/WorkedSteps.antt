-- Steps of small networks.
use Rattle.std.proofs.Common.{◌≡◌, ℕ, Bool, true, false, cond, List, [], ◌∷◌, map, get_or, codes, sym, ◌∙◌, refl, ap, arith}
use Rattle.std.specs.Str.{bytes_eq}
use Rattle.std.proofs.lemmas.Bool.{false≢true}
use Rattle.std.proofs.lemmas.List.Elements.{All-from_recursion}
use Rattle.net_core.specs.declared.Gate.{Gate}
use Rattle.net_core.specs.Step.{gate_value, IsValuation, Step}
use Rattle.net_core.specs.Worked.{HasNoStep, gate, toggle, reads_later, own_contrary, own_value}

-- the gates of the toggle, but for the output
abbrev toggle_gate : Gate
toggle_gate = gate (codes "ab") (codes "c") (codes "01" ∷ codes "10" ∷ []) true

-- the one bit of a list of one
one : (x y : Bool) → ◌≡◌ {A = List Bool} (x ∷ []) (y ∷ []) → x ≡ y
one x y same = ap (λ (bits : List Bool). get_or bits 0 x) same

pub toggle_step : (a b z : Bool) → gate_value toggle_gate (a ∷ b ∷ []) ≡ z → Step toggle (b ∷ []) (a ∷ []) (z ∷ []) (z ∷ [])
toggle_step a b z is =
    let value : List ℕ → Bool = λ name. cond (bytes_eq name (codes "a")) a (cond (bytes_eq name (codes "b")) b z) in
    record {
      some = (
        value,
        record {
          inputs = refl;
          latches = refl;
          gates = All-from_recursion (λ g. value g.output ≡ gate_value g (map value g.inputs)) toggle.gates (sym is, (sym is, tt));
        },
        record { outputs = refl; latch_inputs = refl },
      );
      every = λ other v.
          let on_a : other (codes "a") ≡ a = one (other (codes "a")) a v.inputs in
          let on_b : other (codes "b") ≡ b = one (other (codes "b")) b v.latches in
          let given : gate_value toggle_gate (other (codes "a") ∷ other (codes "b") ∷ []) ≡ z =
          ap (λ x. gate_value toggle_gate (x ∷ other (codes "b") ∷ [])) on_a ∙ (ap (λ y. gate_value toggle_gate (a ∷ y ∷ [])) on_b ∙ is) in
          record {
            outputs = ap (λ x. x ∷ []) (v.gates 1 toggle_gate (omega arith) ∙ given);
            latch_inputs = ap (λ x. x ∷ []) (v.gates 0 toggle_gate (omega arith) ∙ given);
          };
    }

pub reads_later_step : Step reads_later [] (false ∷ []) (true ∷ []) []
reads_later_step =
    let value : List ℕ → Bool = λ name. bytes_eq name (codes "c") in
    record {
      some = (
        value,
        record {
          inputs = refl;
          latches = refl;
          gates = All-from_recursion (λ g. value g.output ≡ gate_value g (map value g.inputs)) reads_later.gates (refl, (refl, tt));
        },
        record { outputs = refl; latch_inputs = refl },
      );
      every = λ other v.
          let first : Gate = gate (codes "b") (codes "c") (codes "0" ∷ []) true in
          let second : Gate = gate (codes "a") (codes "b") (codes "1" ∷ []) true in
          let on_a : other (codes "a") ≡ false = one (other (codes "a")) false v.inputs in
          let on_b : other (codes "b") ≡ false = v.gates 1 first (omega arith) ∙ ap (λ x. gate_value second (x ∷ [])) on_a in
          record {
            outputs = ap (λ x. x ∷ []) (v.gates 0 first (omega arith) ∙ ap (λ x. gate_value first (x ∷ [])) on_b);
            latch_inputs = refl;
          };
    }

-- no bit is its own contrary
no_contrary : (x : Bool) → x ≡ gate_value (gate (codes "b") (codes "b") (codes "0" ∷ []) true) (x ∷ []) → ⊥
no_contrary true same = false≢true (sym same)
no_contrary false same = false≢true same

pub own_contrary_none : HasNoStep own_contrary [] (false ∷ [])
own_contrary_none answer next step =
    no_contrary (step.some.0 (codes "b")) (step.some.1.gates 0 (gate (codes "b") (codes "b") (codes "0" ∷ []) true) (omega arith))

-- the values that give b this bit
abbrev with_b : Bool → List ℕ → Bool
with_b bit name = cond (bytes_eq name (codes "b")) bit false

own_values : (bit : Bool) → IsValuation own_value [] (false ∷ []) (with_b bit)
own_values true = record { inputs = refl; latches = refl; gates = All-from_recursion (λ g. with_b true g.output ≡ gate_value g (map (with_b true) g.inputs)) own_value.gates (refl, tt) }
own_values false = record { inputs = refl; latches = refl; gates = All-from_recursion (λ g. with_b false g.output ≡ gate_value g (map (with_b false) g.inputs)) own_value.gates (refl, tt) }

pub own_value_none : HasNoStep own_value [] (false ∷ [])
own_value_none answer next step =
    let low = (step.every (with_b false) (own_values false)).outputs in
    let high = (step.every (with_b true) (own_values true)).outputs in
    false≢true (one false true (low ∙ sym high))
