-- The split of a job, from its plan and its codes.
use Rattle.std.proofs.Common.{ℕ, Bool, List, length, sym, subst}
use Rattle.answers.specs.Cause.{CallsForNone}
use Rattle.kiss_file.specs.declared.file.KissFile.{KissFile}
use Rattle.kiss_file.specs.LawfulFile.{IsLawful}
use Rattle.kiss_file.specs.Machine.{Conflicting}
use Rattle.split_texts.specs.Causes.{HasNoCode, IsNotWritten}
use Rattle.split_texts.specs.Splits.{HasNoPlan, IsPlanned, IsSplitOf}
use Rattle.split_texts.specs.SplitText.{AreCodes}
use Rattle.split_texts.proofs.Judging.{none_written}
use Rattle.state_codes.specs.declared.Codes.{Codes}
use Rattle.state_codes.specs.declared.split.Kind.{Kind}
use Rattle.state_codes.specs.declared.split.Split.{Split}
use Rattle.state_reduce.specs.declared.work.WorkMachine.{WorkMachine}
use Rattle.state_reduce.specs.Work.{IsWork}
use Rattle.part_texts.specs.declared.split_machine.SplitMachine.{SplitMachine}
use Rattle.part_texts.specs.SplitMachine.{IsSplitMachine}
use Rattle.part_texts.specs.Inner.SplitHere.{IsReadSplit}

-- what is read of a planned split with its codes is the split of the job
pub split_is : (kind : Kind) (text : List ℕ) (reduce : Bool) (F : KissFile) (work : WorkMachine) → IsLawful F → (Conflicting F → ⊥) → IsWork reduce F work
    → (split : Split) → CallsForNone (HasNoPlan kind text work.machine) × IsPlanned kind text work.machine split
    → (codes : Codes) → CallsForNone (HasNoCode work.machine split.parts) × AreCodes (length work.machine.states) split.parts codes
    → (made : SplitMachine) → IsReadSplit F work.machine split codes made
    → CallsForNone (IsNotWritten kind text reduce F) × IsSplitMachine kind text reduce F work.machine made.split.parts made.codes made.reads made.names
split_is kind text reduce F work lawful no_conflict is split plan codes coded made read = (
  none_written kind text reduce F work lawful no_conflict is split plan coded.0,
  record {
    work = (is.class, is.machine);
    split = subst (λ (s : Split). IsSplitOf kind text work.machine s.parts) (sym read.same_split) (record { made = plan.1.made; apart = coded.1.apart });
    lawful = read.here.lawful;
    coded = read.here.coded;
    reads = read.here.reads;
    own = read.here.own;
  },
)
