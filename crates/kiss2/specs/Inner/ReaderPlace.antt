-- Where the reader is in the lines of a text.
use Rattle.std.specs.Prelude.{◌≡◌, ℕ, ◌<◌, false, List, drop, slice_index_or, take}
use Rattle.hs_io.specs.declared.lines.Line.{Line}
use Rattle.kiss2.specs.declared.standing.Said.{Said}
use Rattle.kiss2.specs.Words.{is_ending}
use Rattle.kiss2.specs.Inner.ReaderState.{Keeps}

-- no line of the first ones ends the text
abbrev pub GoesOn : List Line → ℕ → Type 0
GoesOn lines count = (k : ℕ) (d : Line) → k < count → is_ending (slice_index_or lines k d) ≡ false

-- it has taken the first lines, none of which ends the text, and the rest is left
pub record HasCome (lines : List Line) (said : Said) (kept left : List Line) (count : ℕ) : Type 0 where
  pub left_is : drop count lines ≡ left
  pub going : GoesOn lines count
  pub keeps : Keeps said kept (take count lines)
