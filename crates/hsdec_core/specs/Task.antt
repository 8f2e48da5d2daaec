-- What each command works on, and what it does there.
use Rattle.std.specs.Prelude.{Option, None, Some}
use Rattle.hsdec_core.specs.declared.tasks.FileTask.TheVariants.{Check, Cover, High, Low, Reduce}
use Rattle.hsdec_core.specs.declared.tasks.ListTask.TheVariants.{Closed, InputPairs, Output, OutputPairs, Pairs}
use Rattle.hsdec_core.specs.declared.tasks.MachineTask.TheVariants.{Listing, OfFile, OfWork}
use Rattle.hsdec_core.specs.declared.tasks.Task.{Task}
use Rattle.hsdec_core.specs.declared.tasks.Task.TheVariants.{Gen, OnMachine, Sim, Trial, Walk}
use Rattle.hsdec_core.specs.declared.tasks.WorkTask.TheVariants.{Compare, Decompose, Definite, Part, Shift}
use Rattle.job_words.specs.declared.command.Command.{Command}
use Rattle.job_words.specs.declared.command.Command.TheVariants as commands
use Rattle.state_codes.specs.declared.split.Kind.{Kind}
use Rattle.state_codes.specs.declared.split.Kind.TheVariants as kinds

abbrev pub task_of : Command → Task
task_of commands.Check = OnMachine (OfFile Check)
task_of commands.Reduce = OnMachine (OfFile Reduce)
task_of commands.Closed = OnMachine (Listing Closed)
task_of commands.Output = OnMachine (Listing Output)
task_of commands.Pairs = OnMachine (Listing Pairs)
task_of commands.Low = OnMachine (OfFile Low)
task_of commands.High = OnMachine (OfFile High)
task_of commands.Code = OnMachine (OfWork (Decompose kinds.Code))
task_of commands.Assign = OnMachine (OfWork (Decompose kinds.Assign))
task_of commands.Parallel = OnMachine (OfWork (Decompose kinds.Parallel))
task_of commands.Serial = OnMachine (OfWork (Decompose kinds.Serial))
task_of commands.Cascade = OnMachine (OfWork (Decompose kinds.Cascade))
task_of commands.Feedback = OnMachine (OfWork (Decompose kinds.Feedback))
task_of commands.Walk = Walk
task_of commands.Sim = Sim
task_of commands.Gen = Gen
task_of commands.Trial = Trial
task_of commands.Least = OnMachine (OfWork (Decompose kinds.Least))
task_of commands.Cover = OnMachine (OfFile Cover)
task_of commands.Definite = OnMachine (OfWork Definite)
task_of commands.Shift = OnMachine (OfWork Shift)
task_of commands.Ispairs = OnMachine (Listing InputPairs)
task_of commands.Sopairs = OnMachine (Listing OutputPairs)
task_of commands.Compare = OnMachine (OfWork Compare)
task_of commands.Part = OnMachine (OfWork Part)

-- the kind of decomposition that a task writes, if it writes one
abbrev pub kind_of : Task → Option Kind
kind_of (OnMachine (OfWork (Decompose kind))) = Some kind
kind_of _ = None
