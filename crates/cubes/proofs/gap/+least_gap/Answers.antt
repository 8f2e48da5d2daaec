use Rattle.std.proofs.Common.{◌≡◌, ℕ, ◌+◌, ◌-◌, ◌≤◌, List, All, true, false, sym, subst, arith}
use Rattle.cubes.specs.declared.cube.Cube.{Cube}
use Rattle.cubes.specs.Inner.Region.{HasDashesBelow, IsLeastGapIn}
use Rattle.cubes.proofs.Least.{dashes_below_half, gap_in_high, least_of_high, least_of_low, least_of_one}
use Rattle.cubes.specs.Laws.Parts.{half_of_region}
use Rattle.cubes.proofs.Regions.{ok_on}
use Rattle.cubes.proofs.gap.+least_gap.Goals as goal

-- the place below which the halves have dashes
next_place : (region : Cube) (places : ℕ) → (places ≡ 0 → ⊥) → HasDashesBelow region places → HasDashesBelow region (places - 1 + 1)
next_place region places some = subst (HasDashesBelow region) (omega (arith, some))

-- cubes as wide as a region are as wide as its half
widths_of_half : (list : List Cube) (region half : Cube) → half.width ≡ region.width → All (λ c. c.width ≡ region.width) list → All (λ c. c.width ≡ half.width) list
widths_of_half list region half same = subst (λ (w : ℕ). All (λ c. c.width ≡ w) list) (sym same)

within_half : (region half : Cube) (places : ℕ) → half.width ≡ region.width → places ≤ region.width → places - 1 ≤ half.width
within_half region half places same within = omega (arith, same, within)

pub returns-then-places-eq0 : goal.returns-then-places-eq0
returns-then-places-eq0 t c = least_of_one c.args.list.now c.args.region.now c.args.places c.args.gap c.if-places-eq0.true c.requires.shape c.requires.gap

pub least_gap-requires : goal.least_gap-requires
least_gap-requires t c = (
  omega (arith, c.decreases, c.if-places-eq0.false),
  (
    widths_of_half c.args.list.now c.args.region.now c.half-low.result c.half-low.ensures.half.width c.requires.widths,
    (
      within_half c.args.region.now c.half-low.result c.args.places c.half-low.ensures.half.width c.requires.within,
      (
        dashes_below_half c.args.region.now c.half-low.result (c.args.places - 1) false (half_of_region c.args.region.now c.half-low.result (c.args.places - 1) false c.half-low.ensures.half c.half-low.ensures.care)
            (next_place c.args.region.now c.args.places c.if-places-eq0.false c.requires.shape),
        rw c.in-Some.is at c.in_ok-lower.ensures.some,
      ),
    ),
  ),
)

pub least_gap-requires-in-None : goal.least_gap-requires-in-None
least_gap-requires-in-None t c = (
  omega (arith, c.decreases, c.if-places-eq0.false),
  (
    widths_of_half c.args.list.now c.args.region.now c.half.result c.half.ensures.half.width c.requires.widths,
    (
      within_half c.args.region.now c.half.result c.args.places c.half.ensures.half.width c.requires.within,
      (
        dashes_below_half c.args.region.now c.half.result (c.args.places - 1) true (half_of_region c.args.region.now c.half.result (c.args.places - 1) true c.half.ensures.half c.half.ensures.care)
            (next_place c.args.region.now c.args.places c.if-places-eq0.false c.requires.shape),
        gap_in_high c.args.list.now c.args.region.now c.half-low.result c.half.result (c.args.places - 1) (half_of_region c.args.region.now c.half-low.result (c.args.places - 1) false c.half-low.ensures.half c.half-low.ensures.care) (half_of_region c.args.region.now c.half.result (c.args.places - 1) true c.half.ensures.half c.half.ensures.care) c.args.gap c.requires.gap
            (rw c.in-None.is at c.in_ok-lower.ensures.none),
      ),
    ),
  ),
)

pub returns-in-Some : goal.returns-in-Some
returns-in-Some t c =
    ok_on c.least_gap.result (IsLeastGapIn c.args.list.now c.half-low.result) (IsLeastGapIn c.args.list.now c.args.region.now)
    (least_of_low c.args.list.now c.args.region.now c.half-low.result (c.args.places - 1) (half_of_region c.args.region.now c.half-low.result (c.args.places - 1) false c.half-low.ensures.half c.half-low.ensures.care)
    (next_place c.args.region.now c.args.places c.if-places-eq0.false c.requires.shape))
    c.least_gap.ensures

pub returns-in-None : goal.returns-in-None
returns-in-None t c =
    ok_on c.least_gap-in-None.result (IsLeastGapIn c.args.list.now c.half.result) (IsLeastGapIn c.args.list.now c.args.region.now)
    (least_of_high c.args.list.now c.args.region.now c.half-low.result c.half.result (c.args.places - 1) (half_of_region c.args.region.now c.half-low.result (c.args.places - 1) false c.half-low.ensures.half c.half-low.ensures.care) (half_of_region c.args.region.now c.half.result (c.args.places - 1) true c.half.ensures.half c.half.ensures.care)
    (rw c.in-None.is at c.in_ok-lower.ensures.none))
    c.least_gap-in-None.ensures
