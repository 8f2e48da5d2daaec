use Rattle.std.proofs.Common.{sym, ◌∙◌}
use Rattle.kiss2.proofs.record.file_of.Goals as goal

pub returns : goal.returns
returns c all stands table = record {
  inputs = sym stands.inputs ∙ c.requires.inputs;
  outputs = sym stands.outputs ∙ c.requires.outputs;
  states = table.states;
  reset = table.reset;
  rows = table.rows;
  input_names = c.take.ensures.value ∙ stands.input_names;
  output_names = c.take-2.ensures.value ∙ stands.output_names;
}
