use Rattle.cubes.specs.Symbol.{bit, symbol_of}
use Rattle.kiss_file.specs.Machine.{output_bit}
use Rattle.machine_table.specs.Laws.OutputWords.{same_map}
use Rattle.io_pairs.specs.Outputs.{output_word}
use Rattle.io_pairs.proofs.Words.{word_below, word_bits}
use Rattle.io_pairs.proofs.laws.words_write_outputs.Goals as goal

pub returns-clause-outputs : goal.returns-clause-outputs
returns-clause-outputs c F s x =
    same_map (bit (output_word F s x)) (output_bit F s (symbol_of F.inputs x)) F.outputs
    (λ k within. word_bits (output_bit F s (symbol_of F.inputs x)) F.outputs k within)

pub returns-clause-below : goal.returns-clause-below
returns-clause-below c F s x = word_below (output_bit F s (symbol_of F.inputs x)) F.outputs
