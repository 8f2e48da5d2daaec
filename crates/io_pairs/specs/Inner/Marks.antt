-- Marks by turns: the marks of a table are void once a new turn begins.
use Rattle.std.specs.Prelude.{ℕ, ◌<◌, ◌==◌, if◌then◌else◌, List, Option, Some, None, length, map, slice_index_or}
use Rattle.io_pairs.specs.declared.marks.Mark.{Mark}

-- the class of a mark of this turn
abbrev pub class_in : ℕ → Mark → Option ℕ
class_in turn mark = if mark.turn == turn then Some mark.class else None

-- what the marks of this turn say of each value
abbrev pub seen_in : ℕ → List Mark → List (Option ℕ)
seen_in turn marks = map (class_in turn) marks

-- the marks of all values are of turns before this one
abbrev pub AreMarksBefore : ℕ → List Mark → Type 0
AreMarksBefore turn marks = (value : ℕ) (d : Mark) → value < length marks → (slice_index_or marks value d).turn < turn
