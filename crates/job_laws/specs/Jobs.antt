-- What a job writes: a network, or a text that is determined.
use Rattle.std.specs.Prelude.{◌≡◌, ⊤, ℕ, false, List, Option, IsSome}
use Rattle.blif_out.specs.declared.design.Design.{Design}
use Rattle.blif_out.specs.Design.{plain_design}
use Rattle.hsdec_core.specs.Clocks.{design_of}
use Rattle.hsdec_core.specs.declared.tasks.FileTask.TheVariants.{Cover}
use Rattle.hsdec_core.specs.declared.tasks.MachineTask.TheVariants.{Listing, OfFile, OfWork}
use Rattle.hsdec_core.specs.declared.tasks.Task.{Task}
use Rattle.hsdec_core.specs.declared.tasks.Task.TheVariants.{Gen, OnMachine, Sim, Trial, Walk}
use Rattle.hsdec_core.specs.declared.tasks.WorkTask.TheVariants.{Compare, Decompose, Definite, Part, Shift}
use Rattle.hsdec_core.specs.Operands.{file_held, symbols_held}
use Rattle.job_words.specs.declared.jobs.Job.{Job}

-- the bytes of each operand that the job loads are known
abbrev pub AreKnown : Job → (List ℕ → Option (List ℕ)) → Type 0
AreKnown job holds = IsSome (file_held job holds) × IsSome (symbols_held job holds)

-- the task writes a network: that of a decomposition, of a cover, of a shift register or of a trial
abbrev pub WritesNetwork : Task → Type 0
WritesNetwork (OnMachine (OfFile Cover)) = ⊤
WritesNetwork (OnMachine (OfWork (Decompose kind))) = ⊤
WritesNetwork (OnMachine (OfWork Shift)) = ⊤
WritesNetwork Trial = ⊤
WritesNetwork _ = ⊥

-- the design in which the network of a job is written; that of a trial is plain
abbrev pub written_design : Task → Job → Design
written_design Trial job = plain_design
written_design _ job = design_of job

-- The definition of the task's text determines it. That of `part` does so where the job fills nothing in, and that of
-- `compare` leaves open the numbers of rows and of literals.
abbrev pub HasOneText : Task → Job → Type 0
HasOneText (OnMachine (Listing listed)) job = ⊤
HasOneText (OnMachine (OfFile Cover)) job = ⊥
HasOneText (OnMachine (OfFile task)) job = ⊤
HasOneText (OnMachine (OfWork Definite)) job = ⊤
HasOneText (OnMachine (OfWork Part)) job = job.hold ≡ false
HasOneText (OnMachine (OfWork Compare)) job = ⊥
HasOneText (OnMachine (OfWork Shift)) job = ⊥
HasOneText (OnMachine (OfWork (Decompose kind))) job = ⊥
HasOneText Walk job = ⊤
HasOneText Sim job = ⊤
HasOneText Gen job = ⊤
HasOneText Trial job = ⊥
