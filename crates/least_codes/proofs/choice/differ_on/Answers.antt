use Rattle.std.proofs.Common.{◌≡◌, ◌==◌, ℕ, bit_and, get_or, Bool, true, false, not, refl}
use Rattle.std.proofs.lemmas.Bool.{eq-eqb, eqb-true, false≢true}
use Rattle.dependence.specs.Laws.Agreeing.{agree_from_masks, masks_from_agree}
use Rattle.least_codes.proofs.choice.differ_on.Goals as goal

-- a test that is not true is false
not_true : (b : Bool) → (b ≡ true → ⊥) → not b ≡ true
not_true true out = absurd (out refl)
not_true false out = refl

not_both : (b : Bool) → not b ≡ true → b ≡ true → ⊥
not_both true is out = false≢true is
not_both false is out = false≢true out

pub returns : goal.returns
returns c =
    let one : ℕ = bit_and (get_or c.args.words.now c.args.pair.s 0) c.args.set in
    let other : ℕ = bit_and (get_or c.args.words.now c.args.pair.t 0) c.args.set in (
      (λ is agree. not_both (one == other) is (eq-eqb one other (masks_from_agree c.args.words.now c.args.set c.args.pair.s c.args.pair.t agree))),
      (λ apart. not_true (one == other) (λ is. apart (agree_from_masks c.args.words.now c.args.set c.args.pair.s c.args.pair.t (eqb-true one other is)))),
    )
