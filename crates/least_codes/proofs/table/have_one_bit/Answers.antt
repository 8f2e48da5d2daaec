use Rattle.std.proofs.Common.{◌≡◌, ◌==◌, ◌∙◌, ℕ, ◌/◌, ◌^◌, bit_and, get_or, ap, sym}
use Rattle.std.proofs.lemmas.Bool.{eq-eqb, eqb-true}
use Rattle.std.proofs.lemmas.Nat.Bits.{bit_at-lt, shr_and_one}
use Rattle.least_codes.proofs.Rows.{same_from_tests}
use Rattle.least_codes.proofs.table.have_one_bit.Goals as goal
use Rattle.std.specs.Int.{bit_at}

pub returns : goal.returns
returns c =
    let one : ℕ = get_or c.args.words.now c.args.u 0 in
    let other : ℕ = get_or c.args.words.now c.args.v 0 in
    let first : bit_and (one / 2 ^ c.args.i) 1 ≡ bit_at one c.args.i = shr_and_one one c.args.i in
    let second : bit_and (other / 2 ^ c.args.i) 1 ≡ bit_at other c.args.i = shr_and_one other c.args.i in (
      (λ is. ap (λ (n : ℕ). n == 1) (sym first ∙ eqb-true (bit_and (one / 2 ^ c.args.i) 1) (bit_and (other / 2 ^ c.args.i) 1) is ∙ second)),
      (λ same. eq-eqb (bit_and (one / 2 ^ c.args.i) 1) (bit_and (other / 2 ^ c.args.i) 1)
          (first ∙ same_from_tests (bit_at one c.args.i) (bit_at other c.args.i) (bit_at-lt one c.args.i) (bit_at-lt other c.args.i) same ∙ sym second)),
    )
