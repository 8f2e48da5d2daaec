-- What the reader makes of a line.
use Rattle.std.specs.Prelude.{ℕ, List, [], map}
use Rattle.std.specs.Option.{option_copied}
use Rattle.hs_io.specs.declared.lines.Line.{Line}
use Rattle.net_core.specs.Statements as said
use Rattle.blif_in.specs.declared.statement.Statement.{Statement}
use Rattle.blif_in.specs.declared.statement.Statement.TheVariants.{Model, Inputs, Outputs, Clock, Latch, Names, Row, Other}
use Rattle.blif_in.specs.declared.statement.LatchParts.{LatchParts}

-- a statement, without where its names lie in memory
abbrev pub said_by : Statement → said.Statement
said_by (Model names) = said.Model names.now
said_by (Inputs names) = said.Inputs names.now
said_by (Outputs names) = said.Outputs names.now
said_by (Clock names) = said.Clock names.now
said_by (Latch operands) = said.LatchLine operands.now
said_by (Names names) = said.Names names.now
said_by (Row fields) = said.Row fields.now
said_by Other = said.Other

-- the fields after the word, or those of a row
abbrev pub fields_said : Statement → List (List ℕ)
fields_said (Model names) = names.now
fields_said (Inputs names) = names.now
fields_said (Outputs names) = names.now
fields_said (Clock names) = names.now
fields_said (Latch operands) = operands.now
fields_said (Names names) = names.now
fields_said (Row fields) = fields.now
fields_said Other = []

abbrev pub parts_said : LatchParts → said.LatchParts
parts_said parts =
    record {
      input = parts.input.now;
      output = parts.output.now;
      kind = option_copied parts.kind;
      control = option_copied parts.control;
      start = option_copied parts.start;
    }

-- what lines say
abbrev pub says : Line → said.Statement
says line = said.statement_of line.fields

abbrev pub numbered : List Line → List said.NumberedStatement
numbered lines = map said.numbered_of lines
