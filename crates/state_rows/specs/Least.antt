-- Searches for the least number of a kind.
use Rattle.std.specs.Prelude.{ℕ, ◌≤◌, min, Bool, IsTrue, Option, None, Some}

-- a search found something; if it looks for the least, it found nothing above the number
abbrev pub IsMetBy : Option ℕ → Bool → ℕ → Type 0
IsMetBy None least y = ⊥
IsMetBy (Some x) least y = IsTrue least → x ≤ y

-- the lesser of two numbers, if any was found
abbrev pub lesser_of : Option ℕ → Option ℕ → Option ℕ
lesser_of None found = found
lesser_of (Some x) None = Some x
lesser_of (Some x) (Some y) = Some (min x y)
