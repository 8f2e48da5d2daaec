-- The groups of commands on the page of `--help`.
use Rattle.std.specs.Prelude.{ℕ, Bool, true, false, List, codes}
use Rattle.job_words.specs.declared.command.Command.{Command}
use Rattle.job_words.specs.declared.command.Command.TheVariants as commands
use Rattle.hsdec_program.specs.declared.groups.Group.{Group}
use Rattle.hsdec_program.specs.declared.groups.Group.TheVariants.{Look, Split, Code, Run, Make}

-- the group of a command
abbrev pub group_of : Command → Group
group_of commands.Check = Look
group_of commands.Reduce = Make
group_of commands.Closed = Look
group_of commands.Output = Look
group_of commands.Pairs = Look
group_of commands.Low = Look
group_of commands.High = Look
group_of commands.Code = Code
group_of commands.Assign = Code
group_of commands.Parallel = Split
group_of commands.Serial = Split
group_of commands.Cascade = Split
group_of commands.Feedback = Split
group_of commands.Walk = Run
group_of commands.Sim = Run
group_of commands.Gen = Make
group_of commands.Trial = Make
group_of commands.Least = Code
group_of commands.Cover = Code
group_of commands.Definite = Look
group_of commands.Shift = Code
group_of commands.Ispairs = Look
group_of commands.Sopairs = Look
group_of commands.Compare = Split
group_of commands.Part = Split

-- the heading of a group
abbrev pub heading_of : Group → List ℕ
heading_of Look = codes "Look at a machine:"
heading_of Split = codes "Split a machine into smaller ones:"
heading_of Code = codes "Choose a code for its states:"
heading_of Run = codes "Run a machine or its network:"
heading_of Make = codes "Make a machine:"

-- two groups are one
abbrev pub same_group : Group → Group → Bool
same_group Look Look = true
same_group Split Split = true
same_group Code Code = true
same_group Run Run = true
same_group Make Make = true
same_group group other = false
