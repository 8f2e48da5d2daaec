-- Steps and runs of small networks.
use Rattle.std.proofs.Common.{◌≡◌, ℕ, Bool, true, false, cond, List, [], ◌∷◌, Option, None, Some, map, codes, sym, ◌∙◌, refl, ap, arith}
use Rattle.std.specs.Str.{bytes_eq}
use Rattle.std.proofs.lemmas.List.Elements.{All-from_recursion}
use Rattle.net_core.specs.declared.Gate.{Gate}
use Rattle.net_core.specs.declared.Network.{Network}
use Rattle.net_core.specs.Step.{gate_value, Step}
use Rattle.net_core.specs.declared.Start.{Start}
use Rattle.net_core.specs.declared.Start.TheVariants.{Free, One, Unknown, Zero}
use Rattle.net_core.specs.Worked.{gate, unlike}
use Rattle.net_core.specs.Laws.Unlike.{unlike_answers}
use Rattle.net_sim.specs.Run.{IsRun}
use Rattle.net_sim.specs.Worked.{RunsOnlyTo, behind_buffer, latched, shifted, started}
use Rattle.net_sim.proofs.Exclusive.{run_once}

-- the bits of a list of one or two
first : {x y : Bool} {xs ys : List Bool} → ◌≡◌ {A = List Bool} (x ∷ xs) (y ∷ ys) → x ≡ y
first same = cc

second : {a x y b : Bool} → ◌≡◌ {A = List Bool} (a ∷ x ∷ []) (b ∷ y ∷ []) → x ≡ y
second same = cc

-- the value of each gate at a valuation
abbrev agrees : (List ℕ → Bool) → Gate → Type 0
agrees value g = value g.output ≡ gate_value g (map value g.inputs)

abbrev buffer : Gate
buffer = gate (codes "a") (codes "y") (codes "1" ∷ []) true

module _ (rows : List (List ℕ)) (on : Bool) where
  abbrev behind : Gate
  behind = gate (codes "y") (codes "z") rows on

  pub behind_step : (a y z : Bool) → gate_value buffer (a ∷ []) ≡ y → gate_value behind (y ∷ []) ≡ z → Step (behind_buffer rows on) [] (a ∷ []) (z ∷ []) []
  behind_step a y z first_is second_is =
      let value : List ℕ → Bool = λ name. cond (bytes_eq name (codes "a")) a (cond (bytes_eq name (codes "y")) y z) in
      record {
        some = (
          value,
          record { inputs = refl; latches = refl; gates = All-from_recursion (agrees value) (behind_buffer rows on).gates (sym second_is, (sym first_is, tt)) },
          record { outputs = refl; latch_inputs = refl },
        );
        every = λ other v.
            let on_a : other (codes "a") ≡ a = first v.inputs in
            let on_y : other (codes "y") ≡ y = v.gates 1 buffer (omega arith) ∙ (ap (λ x. gate_value buffer (x ∷ [])) on_a ∙ first_is) in
            record {
              outputs = ap (λ x. x ∷ []) (v.gates 0 behind (omega arith) ∙ (ap (λ x. gate_value behind (x ∷ [])) on_y ∙ second_is));
              latch_inputs = refl;
            };
      }

abbrev next_gate : Gate
next_gate = gate (codes "xq") (codes "d") (codes "01" ∷ codes "10" ∷ []) true

abbrev shown_gate : Gate
shown_gate = gate (codes "q") (codes "z") (codes "1" ∷ []) true

pub latched_step : (x q d z : Bool) → gate_value next_gate (x ∷ q ∷ []) ≡ d → gate_value shown_gate (q ∷ []) ≡ z → Step latched (q ∷ []) (x ∷ []) (z ∷ []) (d ∷ [])
latched_step x q d z next_is shown_is =
    let value : List ℕ → Bool = λ name. cond (bytes_eq name (codes "x")) x (cond (bytes_eq name (codes "q")) q (cond (bytes_eq name (codes "d")) d z)) in
    record {
      some = (
        value,
        record { inputs = refl; latches = refl; gates = All-from_recursion (agrees value) latched.gates (sym next_is, (sym shown_is, tt)) },
        record { outputs = refl; latch_inputs = refl },
      );
      every = λ other v.
          let on_x : other (codes "x") ≡ x = first v.inputs in
          let on_q : other (codes "q") ≡ q = first v.latches in
          record {
            outputs = ap (λ b. b ∷ []) (v.gates 1 shown_gate (omega arith) ∙ (ap (λ b. gate_value shown_gate (b ∷ [])) on_q ∙ shown_is));
            latch_inputs = ap (λ b. b ∷ [])
                (v.gates 0 next_gate (omega arith)
                ∙ (ap (λ b. gate_value next_gate (b ∷ other (codes "q") ∷ [])) on_x ∙ (ap (λ b. gate_value next_gate (x ∷ b ∷ [])) on_q ∙ next_is)));
          };
    }

-- the latches are the outputs
pub shown_step : (s t : Start) (a p q : Bool) → Step (started (codes "pq") s t) (p ∷ q ∷ []) (a ∷ []) (p ∷ q ∷ []) (a ∷ p ∷ [])
shown_step s t a p q =
    let value : List ℕ → Bool = λ name. cond (bytes_eq name (codes "a")) a (cond (bytes_eq name (codes "p")) p q) in
    record {
      some = (
        value,
        record { inputs = refl; latches = refl; gates = All-from_recursion (agrees value) (started (codes "pq") s t).gates tt },
        record { outputs = refl; latch_inputs = refl },
      );
      every = λ other v.
          let on_a : other (codes "a") ≡ a = first v.inputs in
          let on_p : other (codes "p") ≡ p = first v.latches in
          record { outputs = v.latches; latch_inputs = ap (λ b. b ∷ other (codes "p") ∷ []) on_a ∙ ap (λ b. a ∷ b ∷ []) on_p };
    }

pub shifted_step : (a p q : Bool) → Step shifted (p ∷ q ∷ []) (a ∷ []) (q ∷ []) (a ∷ p ∷ [])
shifted_step a p q =
    let value : List ℕ → Bool = λ name. cond (bytes_eq name (codes "a")) a (cond (bytes_eq name (codes "p")) p q) in
    record {
      some = (
        value,
        record { inputs = refl; latches = refl; gates = All-from_recursion (agrees value) shifted.gates tt },
        record { outputs = refl; latch_inputs = refl },
      );
      every = λ other v.
          let on_a : other (codes "a") ≡ a = first v.inputs in
          let on_p : other (codes "p") ≡ p = first v.latches in
          let on_q : other (codes "q") ≡ q = second v.latches in
          record { outputs = ap (λ b. b ∷ []) on_q; latch_inputs = ap (λ b. b ∷ other (codes "p") ∷ []) on_a ∙ ap (λ b. a ∷ b ∷ []) on_p };
    }

-- a run has no other text
only : (N : Network) (start : Option (List ℕ)) (symbols text : List ℕ) → IsRun N start symbols text → RunsOnlyTo N start symbols text
only N start symbols text is = (is, λ other run. run_once N start symbols other text run is)

module _ (rows : List (List ℕ)) (on : Bool) (low : gate_value (gate (codes "y") (codes "z") rows on) (false ∷ []) ≡ true) (high : gate_value (gate (codes "y") (codes "z") rows on) (true ∷ []) ≡ false) where
  behind_run : RunsOnlyTo (behind_buffer rows on) None (codes "0\n1\n") (codes "1\n0\n")
  behind_run =
      only (behind_buffer rows on) None (codes "0\n1\n") (codes "1\n0\n")
      (record {
        state = [];
        word = (false ∷ []) ∷ (true ∷ []) ∷ [];
        answers = (true ∷ []) ∷ (false ∷ []) ∷ [];
        begins = refl;
        reads = (record { good = refl; field = refl; as_wide = refl }, (record { good = refl; field = refl; as_wide = refl }, tt));
        answered = (
          true ∷ [],
          [],
          (false ∷ []) ∷ [],
          refl,
          behind_step rows on false false true refl low,
          (false ∷ [], [], [], refl, behind_step rows on true true false refl high, refl),
        );
        is = refl;
      })

pub on_set_run : RunsOnlyTo (behind_buffer (codes "0" ∷ []) true) None (codes "0\n1\n") (codes "1\n0\n")
on_set_run = behind_run (codes "0" ∷ []) true refl refl

pub off_set_run : RunsOnlyTo (behind_buffer (codes "1" ∷ []) false) None (codes "0\n1\n") (codes "1\n0\n")
off_set_run = behind_run (codes "1" ∷ []) false refl refl

pub own_start_run : RunsOnlyTo latched None (codes "1\n1\n1\n") (codes "0\n1\n0\n")
own_start_run =
    only latched None (codes "1\n1\n1\n") (codes "0\n1\n0\n")
    (record {
      state = false ∷ [];
      word = (true ∷ []) ∷ (true ∷ []) ∷ (true ∷ []) ∷ [];
      answers = (false ∷ []) ∷ (true ∷ []) ∷ (false ∷ []) ∷ [];
      begins = refl;
      reads = (
        record { good = refl; field = refl; as_wide = refl },
        (record { good = refl; field = refl; as_wide = refl }, (record { good = refl; field = refl; as_wide = refl }, tt)),
      );
      answered = (
        false ∷ [],
        true ∷ [],
        (true ∷ []) ∷ (false ∷ []) ∷ [],
        refl,
        latched_step true false true false refl refl,
        (
          true ∷ [],
          false ∷ [],
          (false ∷ []) ∷ [],
          refl,
          latched_step true true false true refl refl,
          (false ∷ [], true ∷ [], [], refl, latched_step true false true false refl refl, refl),
        ),
      );
      is = refl;
    })

pub given_start_run : RunsOnlyTo latched (Some (codes "1")) (codes "1\n1\n1\n") (codes "1\n0\n1\n")
given_start_run =
    only latched (Some (codes "1")) (codes "1\n1\n1\n") (codes "1\n0\n1\n")
    (record {
      state = true ∷ [];
      word = (true ∷ []) ∷ (true ∷ []) ∷ (true ∷ []) ∷ [];
      answers = (true ∷ []) ∷ (false ∷ []) ∷ (true ∷ []) ∷ [];
      begins = record { as_many = refl; is = refl };
      reads = (
        record { good = refl; field = refl; as_wide = refl },
        (record { good = refl; field = refl; as_wide = refl }, (record { good = refl; field = refl; as_wide = refl }, tt)),
      );
      answered = (
        true ∷ [],
        false ∷ [],
        (false ∷ []) ∷ (true ∷ []) ∷ [],
        refl,
        latched_step true true false true refl refl,
        (
          false ∷ [],
          true ∷ [],
          (true ∷ []) ∷ [],
          refl,
          latched_step true false true false refl refl,
          (true ∷ [], false ∷ [], [], refl, latched_step true true false true refl refl, refl),
        ),
      );
      is = refl;
    })

pub first_bit_first_run : RunsOnlyTo shifted (Some (codes "10")) (codes "0\n0\n") (codes "0\n1\n")
first_bit_first_run =
    only shifted (Some (codes "10")) (codes "0\n0\n") (codes "0\n1\n")
    (record {
      state = true ∷ false ∷ [];
      word = (false ∷ []) ∷ (false ∷ []) ∷ [];
      answers = (false ∷ []) ∷ (true ∷ []) ∷ [];
      begins = record { as_many = refl; is = refl };
      reads = (record { good = refl; field = refl; as_wide = refl }, (record { good = refl; field = refl; as_wide = refl }, tt));
      answered = (
        false ∷ [],
        false ∷ true ∷ [],
        (true ∷ []) ∷ [],
        refl,
        shifted_step false true false,
        (true ∷ [], false ∷ false ∷ [], [], refl, shifted_step false false true, refl),
      );
      is = refl;
    })

pub start_at_one_run : RunsOnlyTo (started (codes "pq") One Zero) None (codes "0\n1\n") (codes "10\n01\n")
start_at_one_run =
    only (started (codes "pq") One Zero) None (codes "0\n1\n") (codes "10\n01\n")
    (record {
      state = true ∷ false ∷ [];
      word = (false ∷ []) ∷ (true ∷ []) ∷ [];
      answers = (true ∷ false ∷ []) ∷ (false ∷ true ∷ []) ∷ [];
      begins = refl;
      reads = (record { good = refl; field = refl; as_wide = refl }, (record { good = refl; field = refl; as_wide = refl }, tt));
      answered = (
        true ∷ false ∷ [],
        false ∷ true ∷ [],
        (false ∷ true ∷ []) ∷ [],
        refl,
        shown_step One Zero false true false,
        (false ∷ true ∷ [], true ∷ false ∷ [], [], refl, shown_step One Zero true false true, refl),
      );
      is = refl;
    })

pub given_for_unknown_run : RunsOnlyTo (started (codes "pq") Unknown Free) (Some (codes "01")) (codes "1\n0\n") (codes "01\n10\n")
given_for_unknown_run =
    only (started (codes "pq") Unknown Free) (Some (codes "01")) (codes "1\n0\n") (codes "01\n10\n")
    (record {
      state = false ∷ true ∷ [];
      word = (true ∷ []) ∷ (false ∷ []) ∷ [];
      answers = (false ∷ true ∷ []) ∷ (true ∷ false ∷ []) ∷ [];
      begins = record { as_many = refl; is = refl };
      reads = (record { good = refl; field = refl; as_wide = refl }, (record { good = refl; field = refl; as_wide = refl }, tt));
      answered = (
        false ∷ true ∷ [],
        true ∷ false ∷ [],
        (true ∷ false ∷ []) ∷ [],
        refl,
        shown_step Unknown Free true false true,
        (true ∷ false ∷ [], false ∷ true ∷ [], [], refl, shown_step Unknown Free false true false, refl),
      );
      is = refl;
    })

pub unlike_run : RunsOnlyTo unlike None (codes "10\n11\n00\n") (codes "10\n01\n00\n")
unlike_run =
    only unlike None (codes "10\n11\n00\n") (codes "10\n01\n00\n")
    (record {
      state = [];
      word = (true ∷ false ∷ []) ∷ (true ∷ true ∷ []) ∷ (false ∷ false ∷ []) ∷ [];
      answers = (true ∷ false ∷ []) ∷ (false ∷ true ∷ []) ∷ (false ∷ false ∷ []) ∷ [];
      begins = refl;
      reads = (
        record { good = refl; field = refl; as_wide = refl },
        (record { good = refl; field = refl; as_wide = refl }, (record { good = refl; field = refl; as_wide = refl }, tt)),
      );
      answered = unlike_answers;
      is = refl;
    })
