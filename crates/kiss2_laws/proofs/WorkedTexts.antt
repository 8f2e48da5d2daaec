-- What a worked text says.
use Rattle.std.proofs.Common.{◌≡◌, ℕ, List, [], Some, None, ap, false, sym, ◌∙◌, subst}
use Rattle.std.specs.Prelude.{Option, slice_get}
use Rattle.kiss_file.specs.Names.{AreDistinct}
use Rattle.kiss_file.specs.declared.file.KissFile.{KissFile}
use Rattle.kiss2.specs.Kiss.{IsNextOf, Kiss, lines_read}
use Rattle.kiss2.specs.Standing.{reset_name, state_names}
use Rattle.kiss2.specs.Words.{is_open}
use Rattle.kiss2.specs.Laws.Faultless.{faultless_none}
use Rattle.kiss2.specs.Laws.Made.{a_record}
use Rattle.kiss2_laws.proofs.Scanning.{scan, scanned_none}
use Rattle.kiss2.specs.Laws.SameRecord.{next_once, number_once, states_distinct}

-- a text without a fault says a machine
pub said_by : (bytes : List ℕ) → scan [] (lines_read bytes) ≡ None → (F : KissFile) × Kiss bytes F
said_by bytes none =
    let fine = scanned_none [] (lines_read bytes) faultless_none none in
    let made = a_record (lines_read bytes) fine.0 fine.1 in (made.0, record { faultless = fine.0; closed = fine.1; whole = made.1 })

module _ (bytes : List ℕ) (F : KissFile) (read : Kiss bytes F) (states : List (List ℕ)) (are : state_names (lines_read bytes) ≡ states) where
  pub states_said : F.states ≡ states
  states_said = read.whole.states ∙ are

  distinct : AreDistinct F.states
  distinct = subst AreDistinct (sym read.whole.states) (states_distinct (lines_read bytes))

  named : (n : ℕ) (name : List ℕ) → slice_get states n ≡ Some name → slice_get F.states n ≡ Some name
  named n name is = ap (λ names. slice_get names n) states_said ∙ is

  -- the number of the state of a name
  pub number_said : (n : ℕ) (name : List ℕ) (number : ℕ) → slice_get F.states number ≡ Some name → slice_get states n ≡ Some name → number ≡ n
  number_said n name number is there = number_once F.states name number n distinct is (named n name there)

  pub reset_said : (n : ℕ) (name : List ℕ) → reset_name (lines_read bytes) ≡ Some name → slice_get states n ≡ Some name → F.reset ≡ n
  reset_said n name is there = number_said n name F.reset (read.whole.reset ∙ is) there

  -- the number of the next state of a name
  pub next_said : (field : List ℕ) (to : Option ℕ) (n : ℕ) → IsNextOf F.states field to → is_open field ≡ false → slice_get states n ≡ Some field → to ≡ Some n
  next_said field to n is closed there = next_once F.states field to (Some n) distinct is (closed, named n field there)
