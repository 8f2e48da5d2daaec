use Rattle.std.proofs.Common.{ℕ, ◌≡◌, ◌<◌, ◌*◌, ◌%◌, ◌^◌, ◌⊎◌, Bool, cond, bit_and, bit_or, inl, inr, refl, sym, ◌∙◌, ap, subst, arith}
use Rattle.std.proofs.lemmas.Nat.{one_shl}
use Rattle.cubes.specs.declared.cube.Cube.{Cube}
use Rattle.cubes.specs.Laws.SharedCubes.{care_grows, care_in_half, value_in_half}
use Rattle.cubes.proofs.cube.Cube.half.Goals.{then-one, else-one}
use Rattle.cubes.proofs.cube.Cube.half.Goals as goal

-- the power of two that the code shifts to
shifted : (cube : Cube) (place : ℕ) → place < cube.width → (1 * 2 ^ place) % 2 ^ 32 ≡ 2 ^ place
shifted cube place within = one_shl place 32 (omega (arith, cube.width_bound))

pub invariant_of-result-clause-value_in_care : goal.invariant_of-result-clause-value_in_care
invariant_of-result-clause-value_in_care c =
    let power = shifted c.args.self.now c.args.place c.requires.place in
    let value : (c.if-one.result ≡ bit_or c.args.self.now.value (2 ^ c.args.place)) ⊎ (c.if-one.result ≡ c.args.self.now.value) =
    elim c.if-one.branch [
      | then-one w ↦ inl (w.result-is ∙ ap (bit_or c.args.self.now.value) power)
      | else-one w ↦ inr w.result-is
    ] in
    ap (λ (n : ℕ). bit_and (bit_or c.args.self.now.care n) c.if-one.result) power
    ∙ value_in_half c.args.self.now c.args.place c.requires.place c.requires.dash c.if-one.result value

pub invariant_of-result-clause-care_in_width : goal.invariant_of-result-clause-care_in_width
invariant_of-result-clause-care_in_width c =
    subst (λ (n : ℕ). bit_or c.args.self.now.care n < 2 ^ c.args.self.now.width) (sym (shifted c.args.self.now c.args.place c.requires.place))
    (care_in_half c.args.self.now c.args.place c.requires.place c.requires.dash)

pub returns-clause-half : goal.returns-clause-half
returns-clause-half c =
    let power = shifted c.args.self.now c.args.place c.requires.place in
    record {
      place_within = c.requires.place;
      dash = c.requires.dash;
      width = refl;
      care = ap (bit_or c.args.self.now.care) power;
      value = elim c.if-one.branch [
        | then-one w ↦ w.result-is ∙ ap (bit_or c.args.self.now.value) power ∙ ap (λ (b : Bool). cond b (bit_or c.args.self.now.value (2 ^ c.args.place)) c.args.self.now.value) (sym w.if-one.true)
        | else-one w ↦ w.result-is ∙ ap (λ (b : Bool). cond b (bit_or c.args.self.now.value (2 ^ c.args.place)) c.args.self.now.value) (sym w.if-one.false)
      ];
    }

pub returns-clause-care : goal.returns-clause-care
returns-clause-care c =
    subst (λ (n : ℕ). c.args.self.now.care < bit_or c.args.self.now.care n) (sym (shifted c.args.self.now c.args.place c.requires.place))
    (care_grows c.args.self.now c.args.place c.requires.place c.requires.dash)
