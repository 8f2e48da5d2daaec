-- The steps of the machine of a part of a worked machine.
use Rattle.std.proofs.Common.{◌≡◌, ◌∙◌, ◌<◌, ℕ, zero, suc, Bool, true, false, cond, is_some, eqb, Contains, List, [], ◌∷◌, Some, get_or, length, slice_index, refl, sym, ap, subst, inl, inr, arith}
use Rattle.std.proofs.lemmas.Bool.{false≢true}
use Rattle.std.proofs.lemmas.Option.{same_Some}
use Rattle.cubes.specs.declared.cube.Cube.{Cube}
use Rattle.cubes.specs.Cube.{Holds}
use Rattle.cubes.specs.Field.{character, characters}
use Rattle.cubes.specs.Symbol.{bit}
use Rattle.kiss_file.specs.declared.file.KissRow.{KissRow}
use Rattle.kiss_file.specs.Machine.{Conflicting, IsRowAt, IsSpecifiedAt, Specified, given_bit, next, out}
use Rattle.state_codes.specs.declared.which.Which.TheVariants.{Part as Numbered}
use Rattle.realise.specs.Rows.{read_values}
use Rattle.part_machines.specs.PartMachine.{FollowsSteps, IsOfMoore, outputs_at}
use Rattle.part_laws.specs.WorkedPart.{counter_code, part_row}
use Rattle.part_laws.proofs.WorkedCubes.{both_00, both_01, both_10, both_11, first_0, first_1, held_both_00, held_both_01, held_both_10, held_both_11, held_first_0, held_first_1, one_of, two_of}
use Rattle.part_laws.proofs.WorkedRows.{P, W, p, set, words}

-- ---- from block to block
next_block : (s : ℕ) (x : List Bool) → s < 4 → length x ≡ 2 → next P (slice_index p s) (read_values words set s x) ≡ slice_index p (next W s x)
unfolding characters
next_block s [] low long = absurd (omega (arith, long))
next_block s (u ∷ []) low long = absurd (omega (arith, long))
next_block s (u ∷ v ∷ w ∷ x) low long = absurd (omega (arith, long))
next_block zero (u ∷ false ∷ []) low long = refl
next_block zero (true ∷ true ∷ []) low long = refl
next_block zero (false ∷ true ∷ []) low long = refl
next_block (suc zero) (u ∷ false ∷ []) low long = refl
next_block (suc zero) (u ∷ true ∷ []) low long = refl
next_block (suc (suc zero)) (u ∷ false ∷ []) low long = refl
next_block (suc (suc zero)) (u ∷ true ∷ []) low long = refl
next_block (suc (suc (suc zero))) (u ∷ false ∷ []) low long = refl
next_block (suc (suc (suc zero))) (u ∷ true ∷ []) low long = refl
next_block (suc (suc (suc (suc s)))) (u ∷ v ∷ []) low long = absurd (omega (arith, low))

-- ---- what it gives
-- the bits of a block
abbrev bits_of : ℕ → List Bool
bits_of t = eqb t 2 ∷ eqb t 1 ∷ []

out_is : (t : ℕ) (v q : Bool) → t < 3 → out P t (v ∷ q ∷ []) ≡ bits_of t
unfolding characters
out_is zero false false low = refl
out_is zero true false low = refl
out_is zero false true low = refl
out_is zero true true low = refl
out_is (suc zero) false q low = refl
out_is (suc zero) true q low = refl
out_is (suc (suc zero)) false q low = refl
out_is (suc (suc zero)) true q low = refl
out_is (suc (suc (suc t))) v q low = absurd (omega (arith, low))

block_low : (s : ℕ) → s < 4 → slice_index p s < 3
block_low zero low = omega arith
block_low (suc zero) low = omega arith
block_low (suc (suc zero)) low = omega arith
block_low (suc (suc (suc zero))) low = omega arith
block_low (suc (suc (suc (suc s)))) low = absurd (omega (arith, low))

code_is : (s : ℕ) (x : List Bool) → s < 4 → bits_of (slice_index p s) ≡ outputs_at W counter_code (Numbered 1) s x
code_is zero x low = refl
code_is (suc zero) x low = refl
code_is (suc (suc zero)) x low = refl
code_is (suc (suc (suc zero))) x low = refl
code_is (suc (suc (suc (suc s)))) x low = absurd (omega (arith, low))

gives : (s : ℕ) (x : List Bool) → s < 4 → length x ≡ 2 → out P (slice_index p s) (read_values words set s x) ≡ outputs_at W counter_code (Numbered 1) s x
gives s x low long = out_is (slice_index p s) (get_or x 1 false) (bit (slice_index words s) 0) (block_low s low) ∙ code_is s x low

pub steps : FollowsSteps W counter_code p set (Numbered 1) P
steps = record { next_block = next_block; gives = gives }

at_each : (t : ℕ) (x : List Bool) → t < 3 → length x ≡ 2 → out P t x ≡ bits_of t
at_each t [] low long = absurd (omega (arith, long))
at_each t (u ∷ []) low long = absurd (omega (arith, long))
at_each t (u ∷ v ∷ []) low long = out_is t u v low
at_each t (u ∷ v ∷ w ∷ x) low long = absurd (omega (arith, long))

pub moore : IsOfMoore (Numbered 1) P
moore t x y low long also = at_each t x low long ∙ sym (at_each t y low also)

-- ---- nothing is open
given_both : (cube : Cube) (f t value b : ℕ) → b < 2 → is_some (given_bit b (part_row cube f t value)) ≡ true
given_both cube f t value zero low = refl
given_both cube f t value (suc zero) low = refl
given_both cube f t value (suc (suc b)) low = absurd (omega (arith, low))

by_row : (cube : Cube) (f t value : ℕ) (x : List Bool) → IsRowAt P f x (part_row cube f t value) → IsSpecifiedAt P f x
by_row cube f t value x at = record { next = (part_row cube f t value, at, refl); outputs = λ b low. (part_row cube f t value, at, given_both cube f t value b low) }

said : (t : ℕ) (v q : Bool) → t < 3 → IsSpecifiedAt P t (v ∷ q ∷ [])
unfolding Holds characters
said zero false false low = by_row both_00 0 0 0 (false ∷ false ∷ []) (record { among = (0, omega arith, refl); from = refl; held = (refl, (refl, tt)) })
said zero true false low = by_row both_10 0 0 0 (true ∷ false ∷ []) (record { among = (1, omega arith, refl); from = refl; held = (refl, (refl, tt)) })
said zero false true low = by_row both_01 0 0 0 (false ∷ true ∷ []) (record { among = (2, omega arith, refl); from = refl; held = (refl, (refl, tt)) })
said zero true true low = by_row both_11 0 1 0 (true ∷ true ∷ []) (record { among = (3, omega arith, refl); from = refl; held = (refl, (refl, tt)) })
said (suc zero) false q low = by_row first_0 1 1 2 (false ∷ q ∷ []) (record { among = (4, omega arith, refl); from = refl; held = (refl, (tt, tt)) })
said (suc zero) true q low = by_row first_1 1 2 2 (true ∷ q ∷ []) (record { among = (5, omega arith, refl); from = refl; held = (refl, (tt, tt)) })
said (suc (suc zero)) false q low = by_row first_0 2 2 1 (false ∷ q ∷ []) (record { among = (6, omega arith, refl); from = refl; held = (refl, (tt, tt)) })
said (suc (suc zero)) true q low = by_row first_1 2 0 1 (true ∷ q ∷ []) (record { among = (7, omega arith, refl); from = refl; held = (refl, (tt, tt)) })
said (suc (suc (suc t))) v q low = absurd (omega (arith, low))

pub specified : Specified P
specified t [] low long = absurd (omega (arith, long))
specified t (u ∷ []) low long = absurd (omega (arith, long))
specified t (u ∷ v ∷ []) low long = said t u v low
specified t (u ∷ v ∷ w ∷ x) low long = absurd (omega (arith, long))

-- ---- no two rows conflict
-- where each row of a block goes, and what it gives
abbrev goes : ℕ → Bool → Bool → ℕ
goes t v q = cond (eqb t 0) (cond v (cond q 1 0) 0) (cond (eqb t 1) (cond v 2 1) (cond v 0 2))

abbrev value_of : ℕ → ℕ
value_of t = slice_index (0 ∷ 2 ∷ 1 ∷ []) t

record IsTrue (row : KissRow) : Type 0 where
  steps : (y : List Bool) → Holds row.cube y → row.to ≡ Some (goes row.from (one_of y) (two_of y))
  value : (b : ℕ) → given_bit b row ≡ character 3 (value_of row.from) b

to_both : (t : ℕ) (y : List Bool) (v q : Bool) → (one_of y ≡ v) × (two_of y ≡ q) → Some (goes t v q) ≡ Some (goes t (one_of y) (two_of y))
to_both t y v q is = ap (λ (a : Bool). Some (goes t a q)) (sym is.0) ∙ ap (λ (b : Bool). Some (goes t (one_of y) b)) (sym is.1)

true_row : (k : ℕ) (row : KissRow) → k < 8 → get_or P.rows k row ≡ row → IsTrue row
true_row zero row low is = subst IsTrue is (record { steps = λ y h. to_both 0 y false false (held_both_00 y h); value = λ b. refl })
true_row (suc zero) row low is = subst IsTrue is (record { steps = λ y h. to_both 0 y true false (held_both_10 y h); value = λ b. refl })
true_row (suc (suc zero)) row low is = subst IsTrue is (record { steps = λ y h. to_both 0 y false true (held_both_01 y h); value = λ b. refl })
true_row (suc (suc (suc zero))) row low is = subst IsTrue is (record { steps = λ y h. to_both 0 y true true (held_both_11 y h); value = λ b. refl })
true_row (suc (suc (suc (suc zero)))) row low is = subst IsTrue is (record { steps = λ y h. ap (λ (a : Bool). Some (goes 1 a (two_of y))) (sym (held_first_0 y h)); value = λ b. refl })
true_row (suc (suc (suc (suc (suc zero))))) row low is = subst IsTrue is (record { steps = λ y h. ap (λ (a : Bool). Some (goes 1 a (two_of y))) (sym (held_first_1 y h)); value = λ b. refl })
true_row (suc (suc (suc (suc (suc (suc zero)))))) row low is = subst IsTrue is (record { steps = λ y h. ap (λ (a : Bool). Some (goes 2 a (two_of y))) (sym (held_first_0 y h)); value = λ b. refl })
true_row (suc (suc (suc (suc (suc (suc (suc zero))))))) row low is = subst IsTrue is (record { steps = λ y h. ap (λ (a : Bool). Some (goes 2 a (two_of y))) (sym (held_first_1 y h)); value = λ b. refl })
true_row (suc (suc (suc (suc (suc (suc (suc (suc k)))))))) row low is = absurd (omega (arith, low))

each_row : (row : KissRow) → Contains P.rows row → IsTrue row
each_row row (k, lt, is) = true_row k row lt is

same_next : (row other : KissRow) (y : List Bool) → IsTrue row → IsTrue other → row.from ≡ other.from → Holds row.cube y → Holds other.cube y → row.to ≡ other.to
same_next row other y one two same h also =
    one.steps y h ∙ ap (λ (t : ℕ). Some (goes t (one_of y) (two_of y))) same ∙ sym (two.steps y also)

same_given : (row other : KissRow) (b : ℕ) → IsTrue row → IsTrue other → row.from ≡ other.from → given_bit b row ≡ given_bit b other
same_given row other b one two same = one.value b ∙ ap (λ (t : ℕ). character 3 (value_of t) b) same ∙ sym (two.value b)

pub no_conflict : Conflicting P → ⊥
no_conflict (row, other, among, among_too, from, (y, h, also), two) =
    let one : IsTrue row = each_row row among in
    let twin : IsTrue other = each_row other among_too in
    elim two [
      | inl names ↦ names.4 (same_Some names.0 names.1 (sym names.2 ∙ (same_next row other y one twin from h also ∙ names.3)))
      | inr gives ↦ false≢true (same_Some false true (sym gives.1 ∙ (same_given row other gives.0 one twin from ∙ gives.2)))
    ]
