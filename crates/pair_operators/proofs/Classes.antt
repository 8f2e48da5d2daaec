-- States that go together are put together, state by state.
use Rattle.std.proofs.Common.{◌≡◌, ℕ, List, length, subst, inl, inr, arith}
use Rattle.kiss_file.specs.declared.file.KissFile.{KissFile}
use Rattle.machine_table.specs.NextStates.{NeverLeaves}
use Rattle.partition.specs.Partition.{IsPartition, IsZero}
use Rattle.partition.specs.RelationBlocks.{IsSplitBy}
use Rattle.pair_operators.specs.Extremes.{IsHigh}
use Rattle.pair_operators.specs.NextBlocks.{Goes}
use Rattle.pair_operators.specs.Pair.{Pair}
use Rattle.pair_operators.specs.Laws.Going.{goes_each, goes_in_pair, goes_itself}

-- states are together exactly where they go together: the greatest left side
pub high_all : (F : KissFile) (q p : List ℕ) → NeverLeaves F → length q ≡ length F.states → IsSplitBy (Goes F q) (length F.states) p → IsHigh F q p
high_all F q p stays size split = record {
  lawful = split.lawful;
  pair = λ s t x held long. elim (split.related s t held) [
    | inl same ↦ goes_each F q s t (subst (λ (u : ℕ). Goes F q s u) same (goes_itself F q s stays size (omega (arith, held.0, split.lawful.length)))) x long
    | inr goes ↦ goes_each F q s t goes x long
  ];
  greatest = λ other lawful pair s t held.
      split.kept s t (omega (arith, held.0, lawful.length)) (omega (arith, held.1, lawful.length)) (goes_in_pair F other q s t pair held);
}

-- nothing has to be known: zero makes a pair with all labels
pub none_known : (F : KissFile) (zero q : List ℕ) → NeverLeaves F → IsPartition (length F.states) zero → length q ≡ length F.states → IsZero zero → Pair F zero q
none_known F zero q stays lawful size is s t x held long =
    goes_each F q s t (subst (λ (u : ℕ). Goes F q s u) (is s t held) (goes_itself F q s stays size (omega (arith, held.0, lawful.length)))) x long
