-- The words of the commands.
use Rattle.std.specs.Prelude.{ℕ, List, codes}
use Rattle.job_words.specs.declared.command.Command.{Command}
use Rattle.job_words.specs.declared.command.Command.TheVariants.{Check, Reduce, Closed, Output, Pairs, Low, High, Code, Assign, Parallel, Serial, Cascade, Feedback, Walk, Sim, Gen, Trial, Least, Cover, Definite, Shift, Ispairs, Sopairs, Compare, Part}

-- the word of a command
abbrev pub command_word : Command → List ℕ
command_word Check = codes "check"
command_word Reduce = codes "reduce"
command_word Closed = codes "closed"
command_word Output = codes "output"
command_word Pairs = codes "pairs"
command_word Low = codes "low"
command_word High = codes "high"
command_word Code = codes "code"
command_word Assign = codes "assign"
command_word Parallel = codes "parallel"
command_word Serial = codes "serial"
command_word Cascade = codes "cascade"
command_word Feedback = codes "feedback"
command_word Walk = codes "walk"
command_word Sim = codes "sim"
command_word Gen = codes "gen"
command_word Trial = codes "trial"
command_word Least = codes "least"
command_word Cover = codes "cover"
command_word Definite = codes "definite"
command_word Shift = codes "shift"
command_word Ispairs = codes "ispairs"
command_word Sopairs = codes "sopairs"
command_word Compare = codes "compare"
command_word Part = codes "part"
