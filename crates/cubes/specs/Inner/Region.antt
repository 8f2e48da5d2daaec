-- A region: a cube whose symbols are searched for one that no cube of a list holds. Private functions need it; no
-- public contract cites it.
use Rattle.std.specs.Prelude.{ℕ, ◌≡◌, ◌<◌, ◌/◌, ◌^◌, ◌==◌, Bool, true, false, if◌then◌else◌, List, All, bit_and, bit_or, bit_xor}
use Rattle.cubes.specs.declared.cube.Cube.{Cube}
use Rattle.cubes.specs.Symbol.{bit}
use Rattle.cubes.specs.Cube.{HoldsNumber, clash_of}
use Rattle.cubes.specs.Gap.{IsHeld}

-- there is no place where both the cube and the region have a bit and the bits differ
abbrev pub touches : Cube → Cube → Bool
touches region c = clash_of c region == 0

-- the places where the cube has a bit and the region has a dash
abbrev pub looked_at : Cube → Cube → ℕ
looked_at region c = bit_and c.care (bit_xor c.care region.care)

-- the region has a dash at the place
abbrev pub IsOpen : Cube → ℕ → Type 0
IsOpen region place = (place < region.width) × (bit region.care place ≡ false)

-- the number is that of a symbol of the region that no cube of the list holds
pub record IsGapIn (list : List Cube) (region : Cube) (number : ℕ) : Type 0 where
  pub within : number < 2 ^ region.width
  pub inside : HoldsNumber region number
  pub without : ¬ IsHeld list number

-- each symbol of the region is held by some cube of the list
abbrev pub HoldsRegion : List Cube → Cube → Type 0
HoldsRegion list region = (number : ℕ) → HoldsNumber region number → IsHeld list number

-- the least such symbol
pub record IsLeastGapIn (list : List Cube) (region : Cube) (number : ℕ) : Type 0 where
  pub gap : IsGapIn list region number
  pub least : (lesser : ℕ) → HoldsNumber region lesser → lesser < number → IsHeld list lesser

-- the lowest places of the region are dashes, and its symbols are alike above them
pub record HasDashesBelow (region : Cube) (places : ℕ) : Type 0 where
  pub dashes : (place : ℕ) → place < places → bit region.care place ≡ false
  pub alike : (x y : ℕ) → x < 2 ^ region.width → y < 2 ^ region.width → HoldsNumber region x → HoldsNumber region y → x / 2 ^ places ≡ y / 2 ^ places

-- the dashes of the region at which some cube of the list has a 1, and those at which some cube has a 0
pub record AreWanted (list : List Cube) (region : Cube) (ones zeros : ℕ) : Type 0 where
  pub ones_open : (place : ℕ) → bit ones place ≡ true → IsOpen region place
  pub zeros_open : (place : ℕ) → bit zeros place ≡ true → IsOpen region place
  pub each : All (λ c. (place : ℕ) → bit (looked_at region c) place ≡ true → bit (if bit c.value place then ones else zeros) place ≡ true) list

-- the symbols of the region that have these bits at these places
pub record IsNarrowed (region narrow : Cube) (places bits : ℕ) : Type 0 where
  pub width : narrow.width ≡ region.width
  pub care : narrow.care ≡ bit_or region.care places
  pub grows : 0 < places → region.care < narrow.care
  pub from : (number : ℕ) → HoldsNumber narrow number → HoldsNumber region number × ((place : ℕ) → bit places place ≡ true → bit bits place ≡ bit number place)
  pub to : (number : ℕ) → HoldsNumber region number → ((place : ℕ) → bit places place ≡ true → bit bits place ≡ bit number place) → HoldsNumber narrow number

-- the symbols of the region that have the bit at the place
pub record IsHalfOf (region half : Cube) (place : ℕ) (b : Bool) : Type 0 where
  pub width : half.width ≡ region.width
  pub care : half.care ≡ bit_or region.care (2 ^ place)
  pub grows : region.care < half.care
  pub from : (number : ℕ) → HoldsNumber half number → HoldsNumber region number × (bit number place ≡ b)
  pub to : (number : ℕ) → HoldsNumber region number → bit number place ≡ b → HoldsNumber half number
