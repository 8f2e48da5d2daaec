-- Joins of right sides of two states, which are right sides as soon as M of them is there.
use Rattle.std.proofs.Common.{ℕ, List, length, sym, ◌∙◌}
use Rattle.kiss_file.specs.declared.file.KissFile.{KissFile}
use Rattle.partition.specs.Partition.{IsStateCount, Le, zero_of}
use Rattle.partition.specs.MeetAndJoin.{IsJoin, IsLeastAbove}
use Rattle.partition.specs.Laws.Chains.{join_is_least}
use Rattle.partition.specs.Laws.Extremes.{zero_of_is_partition}
use Rattle.partition.specs.Laws.Labels.{IsPartition-of}
use Rattle.partition.specs.Laws.World.{join_fits}
use Rattle.pair_operators.specs.Extremes.{IsHigh, MmPair}
use Rattle.pair_operators.specs.Laws.Pairs.{pair_monotone}
use Rattle.mm_lattice.specs.Generators.{IsRightOf}
use Rattle.mm_lattice.specs.Inner.RightSides.{IsReached}
use Rattle.partition.specs.Laws.Extremes.{zero_of_below}

pub reached_zero : (F : KissFile) → IsStateCount (length F.states) → IsReached F (zero_of (length F.states))
reached_zero F count = record {
  lawful = zero_of_is_partition (length F.states) count;
  least = λ other lawful above. zero_of_below (length F.states) other lawful;
}

-- the right side of two states itself
pub reached_two : (F : KissFile) (s t : ℕ) (g : List ℕ) → IsRightOf F s t g → IsReached F g
reached_two F s t g right = record { lawful = right.low.lawful; least = λ other lawful above. above s t g right (λ u v held. held) }

pub reached_join : (F : KissFile) (p q joined : List ℕ) → IsReached F p → IsReached F q → IsJoin p q joined → IsReached F joined
reached_join F p q joined one two joins = record {
  lawful = join_fits (length F.states) p q joined one.lawful joins;
  least = λ other lawful above.
      least.least other (IsPartition-of (sym one.lawful.length) lawful)
      (one.least other lawful (λ a b g is below. above a b g is (λ u v held. least.left u v (below u v held))))
      (two.least other lawful (λ a b g is below. above a b g is (λ u v held. least.right u v (below u v held))));
}
  where
    least : IsLeastAbove p q joined
    least = join_is_least p q joined (two.lawful.length ∙ sym one.lawful.length) joins

-- what is reached makes an Mm pair with M of it
pub reached_pair : (F : KissFile) (q p : List ℕ) → IsReached F q → IsHigh F q p → MmPair F p q
reached_pair F q p reached high = record {
  low = record {
    lawful = reached.lawful;
    pair = high.pair;
    least = λ other lawful pair. reached.least other lawful (λ s t g is below.
        let hold : Le is.hold p = high.greatest is.hold is.holds.lawful (pair_monotone F is.hold g is.hold q (λ u v held. held) below is.low.pair) in
        is.low.least other lawful (pair_monotone F p other is.hold other hold (λ u v held. held) pair));
  };
  high = high;
}
