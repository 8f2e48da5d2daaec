-- There is one least and one greatest partition of a pair; both are monotone, and each decides the other.
use Rattle.std.proofs.Common.{◌≡◌, ℕ, ◌↔◌, List, length, sym, ◌∙◌}
use Rattle.kiss_file.specs.declared.file.KissFile.{KissFile}
use Rattle.partition.specs.Partition.{IsPartition, Le}
use Rattle.partition.specs.MeetAndJoin.{IsMeet, IsJoin, IsGreatestBelow, IsLeastAbove}
use Rattle.partition.specs.Laws.Labels.{same_labels, IsPartition-of}
use Rattle.partition.specs.Laws.Chains.{join_is_least, meet_is_greatest}
use Rattle.pair_operators.specs.Pair.{Pair}
use Rattle.pair_operators.specs.Extremes.{IsLow, IsHigh, MmPair}
use Rattle.pair_operators.specs.Laws.Pairs.{pair_monotone, joins_pair, meets_pair}

-- partitions that are below each other are equal
same_from_both : (n : ℕ) (p q : List ℕ) → IsPartition n p → IsPartition n q → Le p q → Le q p → p ≡ q
same_from_both n p q left right up down = same_labels p q left.numbered right.numbered (left.length ∙ sym right.length) (λ s t. (up s t, down s t))

pub low_once : (F : KissFile) (p q other : List ℕ) → IsLow F p q → IsLow F p other → q ≡ other
low_once F p q other one two =
    same_from_both (length F.states) q other one.lawful two.lawful (one.least other two.lawful two.pair) (two.least q one.lawful one.pair)

pub high_once : (F : KissFile) (q p other : List ℕ) → IsHigh F q p → IsHigh F q other → p ≡ other
high_once F q p other one two =
    same_from_both (length F.states) p other one.lawful two.lawful (two.greatest p one.lawful one.pair) (one.greatest other two.lawful two.pair)

pub low_monotone : (F : KissFile) (p a q b : List ℕ) → Le p a → IsLow F p q → IsLow F a b → Le q b
low_monotone F p a q b below one two = one.least b two.lawful (pair_monotone F a b p b below (λ s t held. held) two.pair)

pub high_monotone : (F : KissFile) (q b p a : List ℕ) → Le q b → IsHigh F q p → IsHigh F b a → Le p a
high_monotone F q b p a below one two = two.greatest p one.lawful (pair_monotone F p q p b (λ s t held. held) below one.pair)

-- p is below M(q) exactly where m(p) is below q, and both say that (p, q) is a pair
pub below_high : (F : KissFile) (p q high : List ℕ) → IsPartition (length F.states) p → IsHigh F q high → Le p high ↔ Pair F p q
below_high F p q high lawful is =
    ((λ below. pair_monotone F high q p q below (λ s t held. held) is.pair), (λ pair. is.greatest p lawful pair))

pub above_low : (F : KissFile) (p q low : List ℕ) → IsPartition (length F.states) q → IsLow F p low → Le low q ↔ Pair F p q
above_low F p q low lawful is =
    ((λ above. pair_monotone F p low p q (λ s t held. held) above is.pair), (λ pair. is.least q lawful pair))

pub each_decides : (F : KissFile) (p q low high : List ℕ) → IsPartition (length F.states) p → IsPartition (length F.states) q → IsLow F p low → IsHigh F q high → Le p high ↔ Le low q
each_decides F p q low high left right is_low is_high = (
  (λ below. (above_low F p q low right is_low).1 ((below_high F p q high left is_high).0 below)),
  (λ above. (below_high F p q high left is_high).1 ((above_low F p q low right is_low).0 above)),
)

-- M(q) with m(M(q)) is an Mm pair, and so is M(m(p)) with m(p)
pub mm_from_high : (F : KissFile) (q p low : List ℕ) → IsPartition (length F.states) q → IsHigh F q p → IsLow F p low → MmPair F p low
mm_from_high F q p low lawful high is = record {
  low = is;
  high = record {
    lawful = high.lawful;
    pair = is.pair;
    greatest = λ other fits pair. high.greatest other fits (pair_monotone F other low other q (λ s t held. held) (is.least q lawful high.pair) pair);
  };
}

pub mm_from_low : (F : KissFile) (p q high : List ℕ) → IsPartition (length F.states) p → IsLow F p q → IsHigh F q high → MmPair F high q
mm_from_low F p q high lawful low is = record {
  low = record {
    lawful = low.lawful;
    pair = is.pair;
    least = λ other fits pair. low.least other fits (pair_monotone F high other p other (is.greatest p lawful low.pair) (λ s t held. held) pair);
  };
  high = is;
}

-- M(m(M(q))) is M(q), and m(M(m(p))) is m(p)
pub high_again : (F : KissFile) (q p low again : List ℕ) → IsPartition (length F.states) q → IsHigh F q p → IsLow F p low → IsHigh F low again → again ≡ p
high_again F q p low again lawful high is is_again = high_once F low again p is_again (mm_from_high F q p low lawful high is).high

pub low_again : (F : KissFile) (p q high again : List ℕ) → IsPartition (length F.states) p → IsLow F p q → IsHigh F q high → IsLow F high again → again ≡ q
low_again F p q high again lawful low is is_again = low_once F high again q is_again (mm_from_low F p q high lawful low is).low

-- m of a join is the join of both m's, and M of a meet is the meet of both M's
pub low_of_join : (F : KissFile) (p a q b r o : List ℕ) → length a ≡ length p → IsLow F p q → IsLow F a b → IsJoin p a r → IsJoin q b o → IsLow F r o
low_of_join F p a q b r o sizes one two lower upper = record {
  lawful = IsPartition-of one.lawful.length upper.lawful;
  pair = joins_pair F p q a b r o sizes same one.pair two.pair lower upper;
  least = λ other lawful pair.
      (join_is_least q b o same upper).least other (IsPartition-of (sym one.lawful.length) lawful)
      (one.least other lawful (pair_monotone F r other p other above.left (λ s t held. held) pair))
      (two.least other lawful (pair_monotone F r other a other above.right (λ s t held. held) pair));
}
  where
    same : length b ≡ length q
    same = two.lawful.length ∙ sym one.lawful.length

    above : IsLeastAbove p a r
    above = join_is_least p a r sizes lower

pub high_of_meet : (F : KissFile) (q b p a r o : List ℕ) → IsHigh F q p → IsHigh F b a → IsMeet q b r → IsMeet p a o → IsHigh F r o
high_of_meet F q b p a r o one two lower upper = record {
  lawful = IsPartition-of one.lawful.length upper.lawful;
  pair = meets_pair F p q a b o r one.pair two.pair upper lower;
  greatest = λ other lawful pair.
      (meet_is_greatest p a o upper).greatest other (IsPartition-of (sym one.lawful.length) lawful)
      (one.greatest other lawful (pair_monotone F other r other q (λ s t held. held) below.left pair))
      (two.greatest other lawful (pair_monotone F other r other b (λ s t held. held) below.right pair));
}
  where
    below : IsGreatestBelow q b r
    below = meet_is_greatest q b r lower
