-- How a piece of a text begins.
use Rattle.std.specs.Prelude.{◌≡◌, ℕ, ◌<◌, ◌≤◌, ◌⊎◌, List, [], ◌∷◌, slice_index}

-- the piece is the digit 0, or begins with another digit
abbrev pub IsPlain : List ℕ → Type 0
IsPlain piece = (piece ≡ 48 ∷ []) ⊎ ((48 < slice_index piece 0) × (slice_index piece 0 ≤ 57))
