-- What a machine of words does at a state and a symbol: what the row there says.
use Rattle.std.proofs.Common.{◌≡◌, ℕ, ◌+◌, ◌*◌, ◌/◌, ◌%◌, ◌<◌, Bool, true, false, cond, eqb, Some, None, List, [], ◌∷◌, length, map, refl, ap, ◌∙◌}
use Rattle.std.specs.List.{range_with_len}
use Rattle.std.proofs.lemmas.Nat.{div-mul-add, mod-mul-add}
use Rattle.cubes.specs.Symbol.{bit, number_of}
use Rattle.kiss_file.specs.declared.file.KissFile.{KissFile}
use Rattle.kiss_file.specs.declared.file.KissRow.{KissRow}
use Rattle.kiss_file.specs.Machine.{IsRowAt, given_bit, next, out, output_bit}
use Rattle.kiss_file.specs.Laws.Machine.{next_said, output_bit_said}
use Rattle.machine_gen.specs.PartSteps.{GoByParts}
use Rattle.machine_gen.specs.WordMachine.{AreSizes, IsMachineOf, next_first, next_second}
use Rattle.machine_gen.proofs.Accepting.{no_conflict}
use Rattle.machine_gen.proofs.Numbered.{two_digits}
use Rattle.machine_gen.proofs.Standing.{row_at_symbol}

-- the bits of a value with output 0 at 1 and output 1 at 2
bit_first : (p q : Bool) → bit (cond p 1 0 + cond q 2 0) 0 ≡ p
bit_first true true = refl
bit_first true false = refl
bit_first false true = refl
bit_first false false = refl

bit_second : (p q : Bool) → bit (cond p 1 0 + cond q 2 0) 1 ≡ q
bit_second true true = refl
bit_second true false = refl
bit_second false true = refl
bit_second false false = refl

-- the bit that a row gives
gives : (row : KissRow) (value output : ℕ) (b : Bool) → row.care ≡ 3 → row.value ≡ value → bit 3 output ≡ true → bit value output ≡ b → given_bit output row ≡ Some b
gives row value output b care is given bit_is =
    ap (λ c. cond (bit c output) (Some (bit row.value output)) None) care ∙ ap (λ t. cond t (Some (bit row.value output)) None) given
    ∙ ap (λ v. Some (bit v output)) is ∙ ap (λ (t : Bool). Some t) bit_is

module _ (word : ℕ → ℕ) (a b k : ℕ) (F : KissFile) (sizes : AreSizes a b k) (is : IsMachineOf word a b k F) where
  -- at a state, by its parts
  pub at_state : (s : ℕ) (symbol : List Bool) → s < a * b → length symbol ≡ k
      → (next F s symbol ≡ next_first word a k (s / b) (number_of symbol) * b + next_second word b k (s % b) (number_of symbol))
      × (out F s symbol ≡ eqb (s / b) 0 ∷ eqb (s % b) 0 ∷ [])
  at_state s symbol low long =
      let there = row_at_symbol word a b k F.rows sizes is.rows s symbol low long in
      let row : KissRow = there.0 in
      let at : IsRowAt F s symbol row = record { among = there.1; from = there.2; held = there.3 } in
      let apart = no_conflict word a b k F sizes is in
      let p = eqb (s / b) 0 in
      let q = eqb (s % b) 0 in
      let first : output_bit F s symbol 0 ≡ p = output_bit_said F s symbol apart row 0 p at (gives row _ 0 p there.4.care there.4.value refl (bit_first p q)) in
      let second : output_bit F s symbol 1 ≡ q = output_bit_said F s symbol apart row 1 q at (gives row _ 1 q there.4.care there.4.value refl (bit_second p q)) in (
        next_said F s symbol apart row _ at there.4.to,
        ap (λ n. map (output_bit F s symbol) (range_with_len 0 n)) is.outputs ∙ ap (λ (t : Bool). t ∷ output_bit F s symbol 1 ∷ []) first ∙ ap (λ (t : Bool). p ∷ t ∷ []) second,
      )

pub go_by_parts : GoByParts
go_by_parts word a b k F sizes is i j symbol low within long =
    let both = at_state word a b k F sizes is (i * b + j) symbol (two_digits i j a b low within) long in
    let first : (i * b + j) / b ≡ i = div-mul-add i b j within in
    let second : (i * b + j) % b ≡ j = mod-mul-add i b j within in
    let x = number_of symbol in
    record {
      next_state = both.0 ∙ ap (λ n. next_first word a k n x * b + next_second word b k ((i * b + j) % b) x) first ∙ ap (λ n. next_first word a k i x * b + next_second word b k n x) second;
      outputs = both.1 ∙ ap (λ n. eqb n 0 ∷ eqb ((i * b + j) % b) 0 ∷ []) first ∙ ap (λ n. eqb i 0 ∷ eqb n 0 ∷ []) second;
    }
