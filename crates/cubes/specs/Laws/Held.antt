-- What a cube holds, place by place and by the mask of the code.
use Rattle.std.proofs.Common.{◌≡◌, ℕ, bit_and}
use Rattle.cubes.specs.declared.cube.Cube.{Cube}
use Rattle.cubes.specs.Cube.{Holds, HoldsNumber}
use Rattle.cubes.specs.Laws.Places.{AgreesAt, agrees_from_field, field_from_agrees}
use Rattle.cubes.specs.Laws.Masks.{agrees_from_mask, mask_from_agrees}

-- a cube holds a symbol where they agree at each place with care
abbrev pub Agrees : Cube → ℕ → Type 0
Agrees c number = AgreesAt c.width c.care c.value number

pub agrees_from_held : (c : Cube) (number : ℕ) → HoldsNumber c number → Agrees c number
unfolding Holds
agrees_from_held c number h = agrees_from_field c.width c.care c.value number h

pub held_from_agrees : (c : Cube) (number : ℕ) → Agrees c number → HoldsNumber c number
unfolding Holds
held_from_agrees c number h = field_from_agrees c.width c.care c.value number h

pub held_from_mask : (c : Cube) (number : ℕ) → bit_and number c.care ≡ c.value → HoldsNumber c number
held_from_mask c number h = held_from_agrees c number (agrees_from_mask c.width c.care c.value number h)

pub mask_from_held : (c : Cube) (number : ℕ) → HoldsNumber c number → bit_and number c.care ≡ c.value
mask_from_held c number h =
    mask_from_agrees c.width c.care c.value number c.value_in_care c.care_in_width (agrees_from_held c number h)
