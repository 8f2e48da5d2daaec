-- Fields that are short enough to be measured.
use Rattle.std.specs.Prelude.{ℕ, ◌<◌, ◌^◌, List, All, length}

abbrev pub AreMeasurable : List (List ℕ) → Type 0
AreMeasurable fields = All (λ field. length field < 2 ^ 32) fields
