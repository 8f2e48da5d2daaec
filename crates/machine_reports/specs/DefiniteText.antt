-- What `definite` prints of the machine that it works on.
use Rattle.std.specs.Prelude.{◌≡◌, ℕ, ◌-◌, Bool, List, Some, length, slice_get}
use Rattle.state_reduce.specs.Work.{OnWork}
use Rattle.kiss_file.specs.declared.file.KissFile.{KissFile}
use Rattle.partition.specs.Partition.{IsOne}
use Rattle.shift_real.specs.Chain.{AreTogetherAfter, IsChain}
use Rattle.machine_reports.specs.ListTexts.{lines_of}
use Rattle.machine_reports.specs.StateTexts.{state_line}
use Rattle.machine_reports.specs.declared.state_texts.Shown.{Shown}

-- the members are the chain of the machine; in member j two states are together exactly where every word of j
-- symbols leads both to the same state; the last member is one
pub record IsWholeChain (W : KissFile) (members : List (List ℕ)) : Type 0 where
  pub chain : IsChain W members
  pub together : AreTogetherAfter W members
  pub last : (p : List ℕ) × (slice_get members (length members - 1) ≡ Some p) × IsOne p

-- the members of that chain in order, one on each line
abbrev pub IsChainText : Shown → Bool → KissFile → List ℕ → Type 0
IsChainText shown reduce F text =
    OnWork reduce F (λ W. (members : List (List ℕ)) × IsWholeChain W members × (text ≡ lines_of (state_line shown W.states) members))
