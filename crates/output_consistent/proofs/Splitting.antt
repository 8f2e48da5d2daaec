-- States that agree in one output are put together, state by state.
use Rattle.std.proofs.Common.{◌≡◌, ℕ, ◌∙◌, List, length, sym, ap, refl, inl, inr}
use Rattle.cubes.specs.Symbol.{symbol_of}
use Rattle.cubes.specs.Laws.Numbers.{length-symbol_of}
use Rattle.kiss_file.specs.declared.file.KissFile.{KissFile}
use Rattle.kiss_file.specs.Machine.{output_bit}
use Rattle.partition.specs.RelationBlocks.{IsSplitBy}
use Rattle.output_consistent.specs.Outputs.{IsOutputPartition}
use Rattle.output_consistent.specs.Inner.Agreement.{AgreeInEach}
use Rattle.output_consistent.proofs.Agreeing.{at_symbol}

pub agree_turned : (F : KissFile) (bit s t : ℕ) → AgreeInEach F bit s t → AgreeInEach F bit t s
agree_turned F bit s t agree x below = sym (agree x below)

pub agree_on : (F : KissFile) (bit s t u : ℕ) → AgreeInEach F bit s t → AgreeInEach F bit t u → AgreeInEach F bit s u
agree_on F bit s t u one two x below = one x below ∙ two x below

-- states are together exactly where they agree
pub output_split : (F : KissFile) (bit : ℕ) (p : List ℕ) → IsSplitBy (AgreeInEach F bit) (length F.states) p → IsOutputPartition F bit p
output_split F bit p split = record {
  lawful = split.lawful;
  together = λ s t in_s in_t. (
    (λ held. elim (split.related s t held) [
      | inl same ↦ λ x size. ap (λ (u : ℕ). output_bit F u x bit) same
      | inr agree ↦ at_symbol F.inputs (λ y. output_bit F s y bit ≡ output_bit F t y bit) agree
    ]),
    (λ equal. split.kept s t in_s in_t (λ x below. equal (symbol_of F.inputs x) (length-symbol_of F.inputs x))),
  );
}
