use Rattle.answers.specs.Laws.Causes.{one_of}
use Rattle.answers.specs.declared.numbers.Answer.TheVariants as answers
use Rattle.closed_lattice.specs.ClosedPartitions.{IsClosedPartition}
use Rattle.mm_lattice.specs.MmPairs.{IsMmPair}
use Rattle.partition.specs.Sides.{RightBefore}
use Rattle.output_consistent.specs.Outputs.{IsClosedAndConsistent}
use Rattle.operands.specs.PartFaults.{BadPart}
use Rattle.operands.specs.Laws.Parts.{bad_part_is_of}
use Rattle.partition.specs.Order.{Before}
use Rattle.machine_reports.specs.Laws.Causes.{definite_has_one_answer, input_pairs_have_one_answer, list_has_one_answer, output_pairs_have_one_answer}
use Rattle.machine_reports.proofs.laws.commands_have_one_answer.Goals as goal

pub returns : goal.returns
returns c = record {
  closed = λ F limit. list_has_one_answer Before (IsClosedPartition F) limit;
  output = λ F limit. list_has_one_answer Before (IsClosedAndConsistent F) limit;
  pairs = λ F limit. list_has_one_answer RightBefore (IsMmPair F) limit;
  part = λ states text. one_of answers.PartRefused (BadPart states text) (bad_part_is_of states text);
  definite = definite_has_one_answer;
  ispairs = input_pairs_have_one_answer;
  sopairs = output_pairs_have_one_answer;
}
