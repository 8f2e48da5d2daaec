-- The laws of the Mm pairs of a machine as a world of values that can be joined: those of any relation of partitions,
-- for the partition pairs of the machine.
use Rattle.std.proofs.Common.{◌≡◌, ◌⊎◌, List, ℕ, length}
use Rattle.kiss_file.specs.declared.file.KissFile.{KissFile}
use Rattle.partition.specs.Laws.Partners.{Grow, before_chains_of, before_decides_of, joins_associate_of, joins_commute_of, joins_fit_of, joins_least_of, joins_once_of, joins_repeat_of, least_fits_of, least_once_of, same_right_of}
use Rattle.partition.specs.Laws.World.{zero_fits}
use Rattle.partition.specs.Partners.{IsGreatestWith, IsLeastPairOf, IsMmPairOf, IsPairJoinOf}
use Rattle.partition.specs.Sides.{RightBefore, Sides}
use Rattle.pair_operators.specs.Extremes.{IsHigh}
use Rattle.pair_operators.specs.Laws.Pairs.{pair_monotone}
use Rattle.pair_operators.specs.Pair.{Pair}
use Rattle.mm_lattice.specs.MmPairs.{IsMmPair, IsLeastMmPair, IsMmJoin}

pairs_grow : (F : KissFile) → Grow (Pair F)
pairs_grow F = pair_monotone F

high_of : (F : KissFile) (q p : List ℕ) → IsHigh F q p → IsGreatestWith (length F.states) (λ left. Pair F left q) p
high_of F q p is = record { lawful = is.lawful; has = is.pair; greatest = is.greatest }

high_from : (F : KissFile) (q p : List ℕ) → IsGreatestWith (length F.states) (λ left. Pair F left q) p → IsHigh F q p
high_from F q p is = record { lawful = is.lawful; pair = is.has; greatest = is.greatest }

mm_of : (F : KissFile) (x : Sides) → IsMmPair F x → IsMmPairOf (length F.states) (length F.states) (Pair F) x
mm_of F x is = record {
  low = record { lawful = is.low.lawful; has = is.low.pair; least = is.low.least };
  high = high_of F x.1 x.0 is.high;
}

mm_from : (F : KissFile) (x : Sides) → IsMmPairOf (length F.states) (length F.states) (Pair F) x → IsMmPair F x
mm_from F x is = record {
  low = record { lawful = is.low.lawful; pair = is.low.has; least = is.low.least };
  high = high_from F x.1 x.0 is.high;
}

least_of_mm : (F : KissFile) (x : Sides) → IsLeastMmPair F x → IsLeastPairOf (length F.states) (length F.states) (Pair F) x
least_of_mm F x is = record { lawful = zero_fits (length F.states) x.1 is.1.lawful.count is.0; zero = is.0; high = high_of F x.1 x.0 is.1 }

join_of_mm : (F : KissFile) (x y z : Sides) → IsMmJoin F x y z → IsPairJoinOf (length F.states) (Pair F) x y z
join_of_mm F x y z is = record { joined = is.0; high = high_of F z.1 z.0 is.1 }

-- pairs with equal right sides, whose left sides are M of them, are equal
pub same_right : (F : KissFile) (x y : Sides) → IsHigh F x.1 x.0 → IsHigh F y.1 y.0 → x.1 ≡ y.1 → x ≡ y
same_right F x y one two same =
    same_right_of (length F.states) (length F.states) (Pair F) (pairs_grow F) x y (high_of F x.1 x.0 one) (high_of F y.1 y.0 two) same

pub mm_least_fits : (F : KissFile) (x : Sides) → IsLeastMmPair F x → IsMmPair F x
mm_least_fits F x is = mm_from F x (least_fits_of (length F.states) (length F.states) (Pair F) (pairs_grow F) x (least_of_mm F x is))

pub mm_least_once : (F : KissFile) (x other : Sides) → IsLeastMmPair F x → IsLeastMmPair F other → x ≡ other
mm_least_once F x other one two =
    least_once_of (length F.states) (length F.states) (Pair F) (pairs_grow F) x other (least_of_mm F x one) (least_of_mm F other two)

pub mm_joins_fit : (F : KissFile) (x y z : Sides) → IsMmPair F x → IsMmPair F y → IsMmJoin F x y z → IsMmPair F z
mm_joins_fit F x y z one two is =
    mm_from F z (joins_fit_of (length F.states) (length F.states) (Pair F) (pairs_grow F) x y z (mm_of F x one) (mm_of F y two) (join_of_mm F x y z is))

pub mm_joins_once : (F : KissFile) (x y z other : Sides) → IsMmPair F x → IsMmJoin F x y z → IsMmJoin F x y other → z ≡ other
mm_joins_once F x y z other fit one two =
    joins_once_of (length F.states) (length F.states) (Pair F) (pairs_grow F) x y z other (mm_of F x fit) (join_of_mm F x y z one) (join_of_mm F x y other two)

pub mm_joins_commute : (F : KissFile) (x y z : Sides) → IsMmPair F x → IsMmPair F y → IsMmJoin F x y z → IsMmJoin F y x z
mm_joins_commute F x y z one two is =
    let turned = joins_commute_of (length F.states) (length F.states) (Pair F) (pairs_grow F) x y z (mm_of F x one) (mm_of F y two) (join_of_mm F x y z is) in
    (turned.joined, is.1)

pub mm_joins_associate : (F : KissFile) (x y z front back all : Sides) → IsMmPair F x → IsMmPair F y → IsMmPair F z → IsMmJoin F x y front → IsMmJoin F front z all → IsMmJoin F y z back → IsMmJoin F x back all
mm_joins_associate F x y z front back all a b c d e f =
    let is = joins_associate_of (length F.states) (length F.states) (Pair F) (pairs_grow F) x y z front back all (mm_of F x a) (mm_of F y b) (mm_of F z c)
    (join_of_mm F x y front d) (join_of_mm F front z all e) (join_of_mm F y z back f) in
    (is.joined, e.1)

pub mm_joins_repeat : (F : KissFile) (x : Sides) → IsMmPair F x → IsMmJoin F x x x
mm_joins_repeat F x fit = let is = joins_repeat_of (length F.states) (length F.states) (Pair F) (pairs_grow F) x (mm_of F x fit) in (is.joined, fit.high)

pub mm_joins_least : (F : KissFile) (x y : Sides) → IsLeastMmPair F x → IsMmPair F y → IsMmJoin F x y y
mm_joins_least F x y least fit =
    let is = joins_least_of (length F.states) (length F.states) (Pair F) (pairs_grow F) x y (least_of_mm F x least) (mm_of F y fit) in
    (is.joined, fit.high)

pub right_before_chains : (F : KissFile) (x y z : Sides) → IsMmPair F x → IsMmPair F y → RightBefore x y → RightBefore y z → RightBefore x z
right_before_chains F x y z left right one two =
    before_chains_of (length F.states) (length F.states) (Pair F) (pairs_grow F) x y z (mm_of F x left) (mm_of F y right) one two

pub right_before_decides : (F : KissFile) (x y : Sides) → IsMmPair F x → IsMmPair F y → RightBefore x y ⊎ ((x ≡ y) ⊎ RightBefore y x)
right_before_decides F x y left right =
    before_decides_of (length F.states) (length F.states) (Pair F) (pairs_grow F) x y (mm_of F x left) (mm_of F y right)
