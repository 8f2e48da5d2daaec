-- Latches one by one, and the names that gates list.
use Rattle.std.proofs.Common.{◌≡◌, ℕ, Bool, true, false, if◌then◌else◌, Option, Some, List, [], ◌++◌, length, map, refl, ap, sym, ◌∙◌, arith, length-append}
use Rattle.std.specs.List.{range_with_len}
use Rattle.std.proofs.Math.Path.{fun_ext}
use Rattle.std.proofs.lemmas.List.{ext_get_or, length-map}
use Rattle.std.proofs.lemmas.List.FromFn.{get_or-map-range_with_len, length-map-range_with_len}
use Rattle.std.proofs.lemmas.Simd.{map-map}
use Rattle.cubes.specs.Symbol.{bit}
use Rattle.net_core.specs.declared.Latch.{Latch}
use Rattle.net_core.specs.declared.SignalNames.{SignalNames}
use Rattle.net_core.specs.declared.Start.TheVariants.{Zero, One}
use Rattle.net_core.specs.Step.{bit_of_start}
use Rattle.gate_rows.specs.Columns.{column_count}
use Rattle.gate_rows.specs.Latches.{AreLatches, latch_of}
use Rattle.gate_rows.specs.Names.{name_at}

start_bit : (b : Bool) → bit_of_start (if b then One else Zero) ≡ Some b
start_bit true = refl
start_bit false = refl

all_names_at : (names : List (List ℕ)) (bits : ℕ) → length names ≡ bits → map (name_at names) (range_with_len 0 bits) ≡ names
all_names_at names bits counts =
    ext_get_or [] (map (name_at names) (range_with_len 0 bits)) names (length-map-range_with_len (name_at names) 0 bits ∙ sym counts)
    (λ i within. get_or-map-range_with_len (name_at names) 0 bits i i [] (omega (arith, within, length-map-range_with_len (name_at names) 0 bits)) (omega arith))

latches_are : (names : SignalNames) (bits word : ℕ) (latches : List Latch) → length names.latch_inputs ≡ bits → length names.latch_outputs ≡ bits
    → latches ≡ map (latch_of names word) (range_with_len 0 bits) → AreLatches names bits word latches
latches_are names bits word latches inputs outputs is =
    record {
      inputs = ap (map (λ (latch : Latch). latch.input)) is ∙ (map-map (λ (latch : Latch). latch.input) (latch_of names word) (range_with_len 0 bits) ∙ all_names_at names.latch_inputs bits inputs);
      outputs = ap (map (λ (latch : Latch). latch.output)) is ∙ (map-map (λ (latch : Latch). latch.output) (latch_of names word) (range_with_len 0 bits) ∙ all_names_at names.latch_outputs bits outputs);
      starts = ap (map (λ (latch : Latch). bit_of_start latch.start)) is
          ∙ (map-map (λ (latch : Latch). bit_of_start latch.start) (latch_of names word) (range_with_len 0 bits)
          ∙ (ap (λ (f : ℕ → Option Bool). map f (range_with_len 0 bits)) (fun_ext (λ i. start_bit (bit word i)))
          ∙ sym (map-map Some (bit word) (range_with_len 0 bits))));
    }

-- with the values of a call
pub latches_at : (names : SignalNames) (bits word : ℕ) (latches : List Latch) (i : ℕ) → length names.latch_inputs ≡ bits → length names.latch_outputs ≡ bits → i ≡ bits
    → latches ≡ map (latch_of names word) (range_with_len 0 i) → AreLatches names bits word latches
latches_at names bits word latches i inputs outputs all is =
    latches_are names bits word latches inputs outputs (is ∙ ap (λ (n : ℕ). map (latch_of names word) (range_with_len 0 n)) all)

-- a gate lists as many names as it has columns
pub listed_count : (names : SignalNames) (inputs latches : List ℕ) (listed : List (List ℕ)) → listed ≡ map (name_at names.inputs) inputs ++ map (name_at names.latch_outputs) latches → length listed ≡ column_count inputs latches
listed_count names inputs latches listed is =
    omega (
      arith,
      ap length is,
      length-append (map (name_at names.inputs) inputs) (map (name_at names.latch_outputs) latches),
      length-map inputs (name_at names.inputs),
      length-map latches (name_at names.latch_outputs),
    )
