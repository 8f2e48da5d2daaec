-- The steps and the answers of a network of two unlike inputs and two unlike outputs.
use Rattle.std.proofs.Common.{◌≡◌, ℕ, Bool, true, false, cond, List, [], ◌∷◌, map, get_or, codes, sym, ◌∙◌, refl, ap, arith}
use Rattle.std.specs.Str.{bytes_eq}
use Rattle.std.proofs.lemmas.List.Elements.{All-from_recursion}
use Rattle.net_core.specs.declared.Gate.{Gate}
use Rattle.net_core.specs.Step.{gate_value, NetAnswers, Step}
use Rattle.net_core.specs.Worked.{gate, unlike}

-- the gate of the first output, which reads both inputs, and that of the second
abbrev first_gate : Gate
first_gate = gate (codes "ab") (codes "y") (codes "10" ∷ []) true

abbrev second_gate : Gate
second_gate = gate (codes "b") (codes "z") (codes "1" ∷ []) true

-- the two bits of a list of two
first_of_two : (x y a b : Bool) → ◌≡◌ {A = List Bool} (x ∷ y ∷ []) (a ∷ b ∷ []) → x ≡ a
first_of_two x y a b same = ap (λ (bits : List Bool). get_or bits 0 x) same

second_of_two : (x y a b : Bool) → ◌≡◌ {A = List Bool} (x ∷ y ∷ []) (a ∷ b ∷ []) → y ≡ b
second_of_two x y a b same = ap (λ (bits : List Bool). get_or bits 1 y) same

pub unlike_step : (a b y z : Bool) → gate_value first_gate (a ∷ b ∷ []) ≡ y → gate_value second_gate (b ∷ []) ≡ z → Step unlike [] (a ∷ b ∷ []) (y ∷ z ∷ []) []
unlike_step a b y z first second =
    let value : List ℕ → Bool = λ name. cond (bytes_eq name (codes "a")) a (cond (bytes_eq name (codes "b")) b (cond (bytes_eq name (codes "y")) y z)) in
    record {
      some = (
        value,
        record {
          inputs = refl;
          latches = refl;
          gates = All-from_recursion (λ g. value g.output ≡ gate_value g (map value g.inputs)) unlike.gates (sym first, (sym second, tt));
        },
        record { outputs = refl; latch_inputs = refl },
      );
      every = λ other v.
          let on_a : other (codes "a") ≡ a = first_of_two (other (codes "a")) (other (codes "b")) a b v.inputs in
          let on_b : other (codes "b") ≡ b = second_of_two (other (codes "a")) (other (codes "b")) a b v.inputs in
          let on_y : other (codes "y") ≡ y =
          v.gates 0 first_gate (omega arith)
          ∙ (ap (λ x. gate_value first_gate (x ∷ other (codes "b") ∷ [])) on_a ∙ (ap (λ x. gate_value first_gate (a ∷ x ∷ [])) on_b ∙ first)) in
          let on_z : other (codes "z") ≡ z = v.gates 1 second_gate (omega arith) ∙ (ap (λ x. gate_value second_gate (x ∷ [])) on_b ∙ second) in
          record {
            outputs = ap (λ x. x ∷ other (codes "z") ∷ []) on_y ∙ ap (λ x. y ∷ x ∷ []) on_z;
            latch_inputs = refl;
          };
    }

pub unlike_answers : NetAnswers unlike [] ((true ∷ false ∷ []) ∷ (true ∷ true ∷ []) ∷ (false ∷ false ∷ []) ∷ []) ((true ∷ false ∷ []) ∷ (false ∷ true ∷ []) ∷ (false ∷ false ∷ []) ∷ [])
unlike_answers = (
  true ∷ false ∷ [],
  [],
  (false ∷ true ∷ []) ∷ (false ∷ false ∷ []) ∷ [],
  refl,
  unlike_step true false true false refl refl,
  (
    false ∷ true ∷ [],
    [],
    (false ∷ false ∷ []) ∷ [],
    refl,
    unlike_step true true false true refl refl,
    (
      false ∷ false ∷ [],
      [],
      [],
      refl,
      unlike_step false false false false refl refl,
      refl,
    ),
  ),
)
