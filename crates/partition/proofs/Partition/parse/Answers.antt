use Rattle.std.proofs.Common.{arith}
use Rattle.partition.specs.Laws.Faults.{accepts, causes}
use Rattle.partition.proofs.Partition.parse.Goals as goal

pub returns-clause-accepted : goal.returns-clause-accepted
returns-clause-accepted c p lawful is = accepts c.args.n c.args.text.now p c.read_labels.result (omega arith) c.read_labels.ensures lawful is

pub returns-clause-caused : goal.returns-clause-caused
returns-clause-caused c fail fault = causes c.args.n c.args.text.now fail c.read_labels.result (omega arith) c.read_labels.ensures fault
