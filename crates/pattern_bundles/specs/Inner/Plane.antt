-- The planes of a bundle. Private functions need it; no public contract cites it.
use Rattle.std.specs.Prelude.{ℕ, ◌≡◌, ◌<◌, ◌≤◌, ◌↔◌, Bool, List, Some, false, if◌then◌else◌, length, slice_get, true}
use denote.Struct.Props as logic
use Rattle.std.specs.Int.{bit_at}
use Rattle.pattern_bundles.specs.declared.pattern.Pattern.{Pattern}
use Rattle.pattern_bundles.specs.declared.bundle.Plane.{Plane}
use Rattle.pattern_bundles.specs.Pattern.{Marks}

-- unless the pattern has a dash at the place, it has that bit there
abbrev pub Allows : ℕ → Bool → Pattern → Type 0
Allows place one p = bit_at p.care place ≡ 1 → bit_at p.value place ≡ (if one then 1 else 0)

-- wherever neither has a dash, both have the same bit, except at the marked places
abbrev pub AgreeExcept : ℕ → Pattern → Pattern → Type 0
AgreeExcept rest p q = (place : ℕ) → bit_at rest place ≡ 0 → bit_at p.care place ≡ 1 → bit_at q.care place ≡ 1 → bit_at p.value place ≡ bit_at q.value place

-- the word has a 1 at each place below the count, and nowhere else
abbrev pub AreFirst : ℕ → ℕ → Type 0
AreFirst count word = (k : ℕ) → (bit_at word k ≡ 1) ↔ (k < count)

-- no more than 64 patterns; a plane for each place at which some pattern has no dash, with the patterns that allow each bit
pub record ArePlanes (patterns : List Pattern) (planes : List Plane) : Type 0 where
  pub few : length patterns ≤ 64
  pub width : length planes ≤ 64
  pub zeros : (place : ℕ) (plane : Plane) → slice_get planes place ≡ Some plane → Marks patterns (Allows place false) plane.zeros
  pub ones : (place : ℕ) (plane : Plane) → slice_get planes place ≡ Some plane → Marks patterns (Allows place true) plane.ones
  pub beyond : (k place : ℕ) (p : Pattern) → slice_get patterns k ≡ Some p → length planes ≤ place → bit_at p.care place ≡ 0

pub ArePlanes-prop : (patterns : List Pattern) (planes : List Plane) → IsProp (ArePlanes patterns planes)
ArePlanes-prop patterns planes = hlevel logic.props
