use Rattle.machine_reports.proofs.Defining.{definite_when_whole, never_apart}
use Rattle.machine_reports.proofs.laws.chains_tell_definite_machines.Goals as goal

pub returns : goal.returns
returns c = record {
  whole = definite_when_whole;
  apart = λ W refusal k (s, t, name, other, is, first, named, other_named) definite. never_apart W k s t definite first;
}
