-- Whether a row gives an output.
use Rattle.std.proofs.Common.{◌≡◌, ◌∙◌, ℕ, ◌<◌, Bool, false, true, not, Contains, nat_eq, inl, inr, refl, sym, ap, arith}
use Rattle.std.proofs.lemmas.Bool.{cases_Bool, eq-eqb, eqb-true, false≢true}
use Rattle.std.proofs.lemmas.List.FromFn.{get_or-range_with_len, length-range_with_len}
use Rattle.std.proofs.lemmas.Nat.Bits.{same_from_bits}
use Rattle.std.specs.List.{list_any, range_with_len}
use Rattle.std.specs.Option.{is_some}
use Rattle.cubes.specs.Symbol.{bit}
use Rattle.cubes.specs.Laws.Bits.{bit-zero, same_digits}
use Rattle.kiss_file.specs.declared.file.KissRow.{KissRow}
use Rattle.kiss_file.specs.Machine.{given_bit}
use Rattle.list_facts.specs.Laws.Members.{fails_from_none, passes_from_any}

abbrev gives : KissRow → ℕ → Bool
gives row b = is_some (given_bit b row)

module _ (row : KissRow) where
  given_is : (b : ℕ) (cares : Bool) → bit row.care b ≡ cares → gives row b ≡ cares
  given_is b true cares = rw cares refl
  given_is b false cares = rw cares refl

  cares_from : (b : ℕ) (given : Bool) → gives row b ≡ given → bit row.care b ≡ given
  cares_from b given is = sym (given_is b (bit row.care b) refl) ∙ is

  module _ (outputs : ℕ) (counted : (b : ℕ) → bit row.care b ≡ true → b < outputs) where
    in_range : (b : ℕ) → b < outputs → Contains (range_with_len 0 outputs) b
    in_range b below = (b, omega (arith, below, length-range_with_len 0 outputs), (let at = get_or-range_with_len 0 outputs b b below in omega (arith, at)))

    -- where no output is given, no bit is set
    no_bit : list_any (gives row) (range_with_len 0 outputs) ≡ false → (b : ℕ) → bit row.care b ≡ false
    no_bit none b =
        elim (cases_Bool (bit row.care b)) [
          | inl one ↦ absurd (false≢true (sym (cares_from b false (fails_from_none (gives row) (range_with_len 0 outputs) none b (in_range b (counted b one)))) ∙ one))
          | inr clear ↦ clear
        ]

    gives_as : (b : Bool) → list_any (gives row) (range_with_len 0 outputs) ≡ b → not (nat_eq row.care 0) ≡ b
    gives_as false none =
        let empty : row.care ≡ 0 = same_from_bits row.care 0 (λ k. same_digits row.care 0 k k (no_bit none k ∙ sym (bit-zero k))) in
        ap not (eq-eqb row.care 0 empty)
    gives_as true some =
        elim (cases_Bool (nat_eq row.care 0)) [
          | inl empty ↦
              let there = passes_from_any (gives row) (range_with_len 0 outputs) some in
              absurd (false≢true (sym (bit-zero there.0) ∙ ap (λ (n : ℕ). bit n there.0) (sym (eqb-true row.care 0 empty)) ∙ cares_from there.0 true there.2))
          | inr filled ↦ ap not filled
        ]

    pub gives_is : not (nat_eq row.care 0) ≡ list_any (λ b. is_some (given_bit b row)) (range_with_len 0 outputs)
    gives_is = gives_as (list_any (gives row) (range_with_len 0 outputs)) refl
