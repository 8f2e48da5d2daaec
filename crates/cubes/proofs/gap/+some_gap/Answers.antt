use Rattle.std.proofs.Common.{◌≡◌, ℕ, ◌-◌, ◌^◌, ◌<◌, List, sym, ◌∙◌, false, true, subst, refl, arith}
use Rattle.std.proofs.lemmas.Bool.{false≢true}
use Rattle.cubes.specs.declared.cube.Cube.{Cube}
use Rattle.cubes.specs.Inner.Region.{AreWanted, HoldsRegion, IsGapIn}
use Rattle.cubes.proofs.Narrowing.{dashes_fall}
use Rattle.cubes.specs.Laws.Parts.{half_of_region, whole_from_half}
use Rattle.cubes.proofs.Regions.{gap_far, none_near, none_on, some_on, whole_near, widths_near}
use Rattle.cubes.proofs.Wanting.{against_held, against_inside, halves_held, one_sided_open, same_masks}
use Rattle.cubes.proofs.gap.+some_gap.Goals as goal

-- the same cubes want the same
wanted_here : (cubes others : List Cube) (region : Cube) (ones zeros : ℕ) → cubes ≡ others → AreWanted others region ones zeros → AreWanted cubes region ones zeros
wanted_here cubes others region ones zeros same = subst (λ (list : List Cube). AreWanted list region ones zeros) (sym same)

-- The cubes of each call are those that touch the region.
pub returns-then-holds_whole-clause-none : goal.returns-then-holds_whole-clause-none
returns-then-holds_whole-clause-none t c =
    whole_near c.args.list.now c.deref.result.now c.args.region.now c.requires (c.deref.ensures.value ∙ c.in_ok-cubes.ensures)
    (c.holds_whole.ensures.0 c.if-holds_whole.true)

pub wanted_bits-ones-requires : goal.wanted_bits-ones-requires
wanted_bits-ones-requires t c =
    widths_near c.args.list.now c.deref-2.result.now c.args.region.now c.requires (c.deref-2.ensures.value ∙ c.in_ok-cubes.ensures) c.args.region.now refl

pub narrowed-against-requires-clause-dashes : goal.narrowed-against-requires-clause-dashes
narrowed-against-requires-clause-dashes t c =
    one_sided_open c.args.region.now c.wanted_bits-ones.result.ones c.wanted_bits-ones.result.zeros c.wanted_bits-ones.ensures.ones_open c.wanted_bits-ones.ensures.zeros_open

pub narrowed-against-requires-clause-bits : goal.narrowed-against-requires-clause-bits
narrowed-against-requires-clause-bits t c = against_inside c.args.region.now c.wanted_bits-ones.result.ones c.wanted_bits-ones.result.zeros

pub some_gap-requires : goal.some_gap-requires
some_gap-requires t c = (
  let fall : 2 ^ 32 - c.narrowed-against.result.care < t =
      omega (arith, dashes_fall c.args.region.now c.narrowed-against.result (c.narrowed-against.ensures.grows (omega (arith, c.if-one_sided-ne0.true))), c.decreases) in fall,
  widths_near c.args.list.now c.deref-then-one_sided-ne0.result.now c.args.region.now c.requires
      (c.deref-then-one_sided-ne0.ensures.value ∙ c.in_ok-cubes.ensures) c.narrowed-against.result c.narrowed-against.ensures.width,
)

pub returns-then-one_sided-ne0-clause-some : goal.returns-then-one_sided-ne0-clause-some
returns-then-one_sided-ne0-clause-some t c =
    some_on c.some_gap.result (IsGapIn c.deref-then-one_sided-ne0.result.now c.narrowed-against.result) (IsGapIn c.args.list.now c.args.region.now)
    (gap_far c.args.list.now c.deref-then-one_sided-ne0.result.now c.args.region.now c.requires (c.deref-then-one_sided-ne0.ensures.value ∙ c.in_ok-cubes.ensures)
    c.narrowed-against.result c.narrowed-against.ensures.width (λ x held. (c.narrowed-against.ensures.from x held).0))
    c.some_gap.ensures.some

pub returns-then-one_sided-ne0-clause-none : goal.returns-then-one_sided-ne0-clause-none
returns-then-one_sided-ne0-clause-none t c =
    let are = c.deref-then-one_sided-ne0.ensures.value ∙ c.in_ok-cubes.ensures in
    none_on c.some_gap.result (HoldsRegion c.deref-then-one_sided-ne0.result.now c.narrowed-against.result) (HoldsRegion c.args.list.now c.args.region.now)
    (against_held c.args.list.now c.deref-then-one_sided-ne0.result.now c.args.region.now c.requires are c.wanted_bits-ones.result.ones c.wanted_bits-ones.result.zeros
    c.narrowed-against.result
    (widths_near c.args.list.now c.deref-then-one_sided-ne0.result.now c.args.region.now c.requires are c.args.region.now refl)
    (wanted_here c.deref-then-one_sided-ne0.result.now c.deref-2.result.now c.args.region.now c.wanted_bits-ones.result.ones c.wanted_bits-ones.result.zeros
    (c.deref-then-one_sided-ne0.ensures.value ∙ sym c.deref-2.ensures.value) c.wanted_bits-ones.ensures)
    c.narrowed-against.ensures)
    c.some_gap.ensures.none

pub returns-then-ones-eq0-clause-some : goal.returns-then-ones-eq0-clause-some
returns-then-ones-eq0-clause-some t c =
    let no_zeros : c.wanted_bits-ones.result.zeros ≡ 0 =
    same_masks c.wanted_bits-ones.result.ones c.wanted_bits-ones.result.zeros c.if-one_sided-ne0.false ∙ c.if-ones-eq0.true in
    none_near c.args.list.now c.deref.result.now c.args.region.now c.requires (c.deref.ensures.value ∙ c.in_ok-cubes.ensures)
    (subst (λ (ones : ℕ). AreWanted c.deref.result.now c.args.region.now ones 0) c.if-ones-eq0.true
    (subst (λ (zeros : ℕ). AreWanted c.deref.result.now c.args.region.now c.wanted_bits-ones.result.ones zeros) no_zeros
    (wanted_here c.deref.result.now c.deref-2.result.now c.args.region.now c.wanted_bits-ones.result.ones c.wanted_bits-ones.result.zeros
    (c.deref.ensures.value ∙ sym c.deref-2.ensures.value) c.wanted_bits-ones.ensures)))
    (λ whole. false≢true (sym c.if-holds_whole.false ∙ c.holds_whole.ensures.1 whole))

pub some_gap-requires-2 : goal.some_gap-requires-2
some_gap-requires-2 t c = (
  let fall : 2 ^ 32 - c.half.result.care < t = omega (arith, dashes_fall c.args.region.now c.half.result c.half.ensures.care, c.decreases) in fall,
  widths_near c.args.list.now c.deref-4.result.now c.args.region.now c.requires (c.deref-4.ensures.value ∙ c.in_ok-cubes.ensures) c.half.result c.half.ensures.half.width,
)

pub returns-in-Some-clause-some : goal.returns-in-Some-clause-some
returns-in-Some-clause-some t c =
    gap_far c.args.list.now c.deref-4.result.now c.args.region.now c.requires (c.deref-4.ensures.value ∙ c.in_ok-cubes.ensures) c.half.result c.half.ensures.half.width
    (λ x held. (whole_from_half c.args.region.now c.half.result c.most_looked_at-place.result false c.half.ensures.half x held).0) c.in-Some.gap (rw c.in-Some.is at c.in_ok-gap.ensures.some)

pub some_gap-requires-3 : goal.some_gap-requires-3
some_gap-requires-3 t c = (
  let fall : 2 ^ 32 - c.half-2.result.care < t = omega (arith, dashes_fall c.args.region.now c.half-2.result c.half-2.ensures.care, c.decreases) in fall,
  widths_near c.args.list.now c.deref-5.result.now c.args.region.now c.requires (c.deref-5.ensures.value ∙ c.in_ok-cubes.ensures) c.half-2.result c.half-2.ensures.half.width,
)

pub returns-clause-some : goal.returns-clause-some
returns-clause-some t c =
    some_on c.some_gap-3.result (IsGapIn c.deref-5.result.now c.half-2.result) (IsGapIn c.args.list.now c.args.region.now)
    (gap_far c.args.list.now c.deref-5.result.now c.args.region.now c.requires (c.deref-5.ensures.value ∙ c.in_ok-cubes.ensures) c.half-2.result c.half-2.ensures.half.width
    (λ x held. (whole_from_half c.args.region.now c.half-2.result c.most_looked_at-place.result true c.half-2.ensures.half x held).0))
    c.some_gap-3.ensures.some

pub returns-clause-none : goal.returns-clause-none
returns-clause-none t c =
    none_on c.some_gap-3.result (HoldsRegion c.deref-5.result.now c.half-2.result) (HoldsRegion c.args.list.now c.args.region.now)
    (halves_held c.args.list.now c.deref-5.result.now c.args.region.now c.requires (c.deref-5.ensures.value ∙ c.in_ok-cubes.ensures) c.half.result c.half-2.result
    c.most_looked_at-place.result (half_of_region c.args.region.now c.half.result c.most_looked_at-place.result false c.half.ensures.half c.half.ensures.care) (half_of_region c.args.region.now c.half-2.result c.most_looked_at-place.result true c.half-2.ensures.half c.half-2.ensures.care)
    (subst (λ (cubes : List Cube). HoldsRegion cubes c.half.result) (c.deref-4.ensures.value ∙ sym c.deref-5.ensures.value) (rw c.in_default.is at c.in_ok-gap.ensures.none)))
    c.some_gap-3.ensures.none
