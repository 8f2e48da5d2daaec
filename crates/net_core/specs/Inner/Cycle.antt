-- The part of a path from one of its gates on, rotated.
use Rattle.std.specs.Prelude.{◌≡◌, ℕ, ◌<◌, ◌≤◌, List, ◌++◌, length, slice_index, take, drop, All}

pub record IsTurned (path : List ℕ) (next : ℕ) (cycle : List ℕ) : Type 0 where
  pub from : ℕ
  pub within : from < length path
  pub starts : slice_index path from ≡ next
  pub turn : ℕ
  pub turn_within : turn < length (drop from path)
  pub is : cycle ≡ drop turn (drop from path) ++ take turn (drop from path)
  pub least : All (λ g. slice_index (drop from path) turn ≤ g) (drop from path)
