-- The table of commands: a row gives the operands of a command, in order, and its options.
use Rattle.std.specs.Prelude.{Contains, List, [], ◌∷◌, map}
use Rattle.job_words.specs.declared.command.Command.{Command}
use Rattle.job_words.specs.declared.command.Command.TheVariants as commands
use Rattle.job_words.specs.declared.table.CommandOption.{CommandOption}
use Rattle.job_words.specs.declared.table.Form.{Form}
use Rattle.job_words.specs.declared.table.OperandKind.{OperandKind}
use Rattle.job_words.specs.declared.table.OperandKind.TheVariants.{Cover, File, J, Net, Part, Parts, Split, Symbols, Seed, A, B, K}
use Rattle.job_words.specs.declared.table.CommandOption.TheVariants.{Clock, Fill, Limit, Model, Names, Reduce, Start}

pub record Row : Type 0 where
  pub command : Command
  pub operands : List OperandKind
  pub options : List CommandOption

-- a row of the code's table
abbrev pub row_of : Form → Row
row_of form = record { command = form.command; operands = form.operands.now; options = form.options.now }

abbrev pub row : Command → List OperandKind → List CommandOption → Row
row command operands options = record { command = command; operands = operands; options = options }

-- the commands that are built
abbrev pub built : List Row
built =
    row commands.Check (File ∷ []) (Fill ∷ [])
    ∷ row commands.Reduce (File ∷ []) (Fill ∷ [])
    ∷ row commands.Closed (File ∷ []) (Limit ∷ Fill ∷ Names ∷ [])
    ∷ row commands.Output (File ∷ []) (Limit ∷ Fill ∷ Names ∷ [])
    ∷ row commands.Pairs (File ∷ []) (Limit ∷ Fill ∷ Names ∷ [])
    ∷ row commands.Low (File ∷ Part ∷ []) (Fill ∷ Names ∷ [])
    ∷ row commands.High (File ∷ Part ∷ []) (Fill ∷ Names ∷ [])
    ∷ row commands.Code (File ∷ []) (Reduce ∷ Fill ∷ Clock ∷ Model ∷ [])
    ∷ row commands.Assign (File ∷ Parts ∷ []) (Reduce ∷ Fill ∷ Clock ∷ Model ∷ [])
    ∷ row commands.Parallel (File ∷ []) (Reduce ∷ Fill ∷ Clock ∷ Model ∷ [])
    ∷ row commands.Serial (File ∷ []) (Reduce ∷ Fill ∷ Clock ∷ Model ∷ [])
    ∷ row commands.Cascade (File ∷ []) (Reduce ∷ Fill ∷ Clock ∷ Model ∷ [])
    ∷ row commands.Feedback (File ∷ []) (Reduce ∷ Fill ∷ Clock ∷ Model ∷ [])
    ∷ row commands.Walk (File ∷ Symbols ∷ []) (Fill ∷ [])
    ∷ row commands.Sim (Net ∷ Symbols ∷ []) (Start ∷ [])
    ∷ row commands.Gen (Seed ∷ A ∷ B ∷ K ∷ []) []
    ∷ row commands.Trial (Seed ∷ A ∷ B ∷ K ∷ []) []
    ∷ row commands.Least (File ∷ []) (Reduce ∷ Fill ∷ Clock ∷ Model ∷ [])
    ∷ row commands.Cover (File ∷ Cover ∷ []) (Fill ∷ Clock ∷ Model ∷ [])
    ∷ row commands.Definite (File ∷ []) (Reduce ∷ Fill ∷ Names ∷ [])
    ∷ row commands.Shift (File ∷ []) (Reduce ∷ Fill ∷ Clock ∷ Model ∷ [])
    ∷ row commands.Ispairs (File ∷ []) (Limit ∷ Fill ∷ [])
    ∷ row commands.Sopairs (File ∷ []) (Limit ∷ Fill ∷ [])
    ∷ row commands.Compare (File ∷ []) (Reduce ∷ Fill ∷ [])
    ∷ row commands.Part (File ∷ Split ∷ J ∷ []) (Reduce ∷ Fill ∷ [])
    ∷ []

-- the commands of rows
abbrev pub commands_of : List Row → List Command
commands_of rows = map (λ row. row.command) rows

-- a command is built
abbrev pub IsBuilt : Command → Type 0
IsBuilt command = Contains (commands_of built) command
