-- The laws of the partitions of n states as a world of values that can be joined.
use Rattle.std.specs.Prelude.{◌≡◌, ℕ, ◌⊎◌, List}
use Rattle.std.proofs.Common.{sym, ◌∙◌, subst}
use Rattle.partition.specs.Partition.{IsPartition, IsStateCount, zero_of}
use Rattle.partition.specs.MeetAndJoin.{IsJoin}
use Rattle.partition.specs.Order.{Before}
use Rattle.partition.specs.Laws.Labels.{IsPartition-of}
use Rattle.partition.specs.Laws.Precedence.{before_irreflexive, before_transitive, before_total}
use Rattle.partition.specs.Laws.Extremes.{zero_of_is_zero, zero_of_is_partition}
use Rattle.partition.specs.Laws.Joins.{joins_are_one, join_turned, join_of_join, join_of_itself, join_with_zero}

pub zero_fits : (n : ℕ) (p : List ℕ) → IsStateCount n → p ≡ zero_of n → IsPartition n p
zero_fits n p lawful is = subst (IsPartition n) (sym is) (zero_of_is_partition n lawful)

pub zero_once : (n : ℕ) (p other : List ℕ) → p ≡ zero_of n → other ≡ zero_of n → p ≡ other
zero_once n p other is same = is ∙ sym same

pub join_fits : (n : ℕ) (p q r : List ℕ) → IsPartition n p → IsJoin p q r → IsPartition n r
join_fits n p q r left joined = IsPartition-of left.length joined.lawful

pub join_once : (n : ℕ) (p q r other : List ℕ) → IsPartition n p → IsJoin p q r → IsJoin p q other → r ≡ other
join_once n p q r other left one two = joins_are_one p q r other one two

pub join_commutes : (n : ℕ) (p q r : List ℕ) → IsPartition n p → IsPartition n q → IsJoin p q r → IsJoin q p r
join_commutes n p q r left right joined = join_turned p q r (right.length ∙ sym left.length) joined

pub join_associates : (n : ℕ) (p q r front back all : List ℕ) → IsPartition n p → IsPartition n q → IsPartition n r → IsJoin p q front → IsJoin front r all → IsJoin q r back → IsJoin p back all
join_associates n p q r front back all a b c d e f = join_of_join p q r front back all (b.length ∙ sym a.length) (c.length ∙ sym a.length) d e f

pub join_repeats : (n : ℕ) (p : List ℕ) → IsPartition n p → IsJoin p p p
join_repeats n p fit = join_of_itself p (IsPartition-of (sym fit.length) fit)

pub join_zero : (n : ℕ) (p q : List ℕ) → p ≡ zero_of n → IsPartition n q → IsJoin p q q
join_zero n p q is fit = subst (λ (zero : List ℕ). IsJoin zero q q) (sym is) (join_with_zero q (zero_of n) (IsPartition-of (sym fit.length) fit) ((zero_of_is_partition n fit.count).length ∙ sym fit.length) (zero_of_is_zero n))

pub before_never : (p : List ℕ) → Before p p → ⊥
before_never p before = before_irreflexive p before

pub before_chains : (n : ℕ) (p q r : List ℕ) → IsPartition n p → IsPartition n q → Before p q → Before q r → Before p r
before_chains n p q r left right one two = before_transitive p q r (right.length ∙ sym left.length) one two

pub before_decides : (n : ℕ) (p q : List ℕ) → IsPartition n p → IsPartition n q → Before p q ⊎ ((p ≡ q) ⊎ Before q p)
before_decides n p q left right = before_total p q (right.length ∙ sym left.length)
