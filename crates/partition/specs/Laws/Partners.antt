-- The laws of Mm pairs as a world of values that can be joined. They are for any relation of a left and a right
-- partition that a smaller left side and a greater right side keep. An Mm pair is decided by its right side,
-- and the join of two right sides is a right side.
use Rattle.std.proofs.Common.{◌≡◌, ◌↔◌, ℕ, ◌⊎◌, inl, inr, List, length, sym, ap, ◌∙◌, subst}
use Rattle.partition.specs.Partition.{IsPartition, Le}
use Rattle.partition.specs.MeetAndJoin.{IsLeastAbove}
use Rattle.partition.specs.Laws.Chains.{join_is_least}
use Rattle.partition.specs.Laws.Extremes.{zero_of_below}
use Rattle.partition.specs.Laws.Labels.{IsPartition-of, same_labels}
use Rattle.partition.specs.Laws.World.{join_fits, join_once, join_commutes, join_associates, join_repeats, join_zero, before_never, before_chains, before_decides}
use Rattle.partition.specs.Partners.{IsGreatestWith, IsLeastWith, IsLeastPairOf, IsMmPairOf, IsPairJoinOf}
use Rattle.partition.specs.Sides.{RightBefore, Sides}

-- a smaller left side and a greater right side keep a pair
abbrev pub Grow : (List ℕ → List ℕ → Type 0) → Type 0
Grow Pairs = (p q smaller greater : List ℕ) → Le smaller p → Le q greater → Pairs p q → Pairs smaller greater

module _ (left right : ℕ) (Pairs : List ℕ → List ℕ → Type 0) (grow : Grow Pairs) where
  -- there is one greatest partner
  pub high_once_of : (q p other : List ℕ) → IsGreatestWith left (λ l. Pairs l q) p → IsGreatestWith left (λ l. Pairs l q) other → p ≡ other
  high_once_of q p other one two =
      same_labels p other one.lawful.numbered two.lawful.numbered (one.lawful.length ∙ sym two.lawful.length)
      (λ s t. (two.greatest p one.lawful one.has s t, one.greatest other two.lawful two.has s t))

  -- p is below the greatest partner of q exactly where the least partner of p is below q
  pub each_decides_of : (p q low high : List ℕ) → IsPartition left p → IsPartition right q → IsLeastWith right (Pairs p) low → IsGreatestWith left (λ l. Pairs l q) high → Le p high ↔ Le low q
  each_decides_of p q low high in_left in_right least greatest = (
    (λ below. least.least q in_right (grow high q p q below (λ s t held. held) greatest.has)),
    (λ below. greatest.greatest p in_left (grow p low p q (λ s t held. held) below least.has)),
  )

  -- pairs with equal right sides, whose left sides are their greatest partners, are equal
  pub same_right_of : (x y : Sides) → IsGreatestWith left (λ l. Pairs l x.1) x.0 → IsGreatestWith left (λ l. Pairs l y.1) y.0 → x.1 ≡ y.1 → x ≡ y
  same_right_of (p, q) (a, b) one two same =
      let moved : IsGreatestWith left (λ l. Pairs l q) a = subst (λ (r : List ℕ). IsGreatestWith left (λ l. Pairs l r) a) (sym same) two in
      ap (λ (l : List ℕ). (l, q)) (high_once_of q p a one moved) ∙ ap (λ (r : List ℕ). (a, r)) same

  -- greater right sides have greater partners
  pub high_grows_of : (q b p a : List ℕ) → Le q b → IsGreatestWith left (λ l. Pairs l q) p → IsGreatestWith left (λ l. Pairs l b) a → Le p a
  high_grows_of q b p a below one two = two.greatest p one.lawful (grow p q p b (λ s t held. held) below one.has)

  pub least_fits_of : (x : Sides) → IsLeastPairOf left right Pairs x → IsMmPairOf left right Pairs x
  least_fits_of (p, q) is = record {
    low = record {
      lawful = is.lawful;
      has = is.high.has;
      least = λ other lawful pair. subst (λ (r : List ℕ). Le r other) (sym is.zero) (zero_of_below right other lawful);
    };
    high = is.high;
  }

  pub least_once_of : (x other : Sides) → IsLeastPairOf left right Pairs x → IsLeastPairOf left right Pairs other → x ≡ other
  least_once_of x other one two = same_right_of x other one.high two.high (one.zero ∙ sym two.zero)

  pub joins_fit_of : (x y z : Sides) → IsMmPairOf left right Pairs x → IsMmPairOf left right Pairs y → IsPairJoinOf left Pairs x y z → IsMmPairOf left right Pairs z
  joins_fit_of (p, q) (a, b) (l, r) one two is = record {
    low = record {
      lawful = join_fits right q b r one.low.lawful is.joined;
      has = is.high.has;
      least = λ other lawful pair.
          above.least other (IsPartition-of (sym one.low.lawful.length) lawful)
          (one.low.least other lawful (grow l other p other (high_grows_of q r p l above.left one.high is.high) (λ s t held. held) pair))
          (two.low.least other lawful (grow l other a other (high_grows_of b r a l above.right two.high is.high) (λ s t held. held) pair));
    };
    high = is.high;
  }
    where
      above : IsLeastAbove q b r
      above = join_is_least q b r (two.low.lawful.length ∙ sym one.low.lawful.length) is.joined

  pub joins_once_of : (x y z other : Sides) → IsMmPairOf left right Pairs x → IsPairJoinOf left Pairs x y z → IsPairJoinOf left Pairs x y other → z ≡ other
  joins_once_of x y z other fit one two =
      same_right_of z other one.high two.high (join_once right x.1 y.1 z.1 other.1 fit.low.lawful one.joined two.joined)

  pub joins_commute_of : (x y z : Sides) → IsMmPairOf left right Pairs x → IsMmPairOf left right Pairs y → IsPairJoinOf left Pairs x y z → IsPairJoinOf left Pairs y x z
  joins_commute_of x y z one two is = record { joined = join_commutes right x.1 y.1 z.1 one.low.lawful two.low.lawful is.joined; high = is.high }

  pub joins_associate_of : (x y z front back all : Sides) → IsMmPairOf left right Pairs x → IsMmPairOf left right Pairs y → IsMmPairOf left right Pairs z →
      IsPairJoinOf left Pairs x y front → IsPairJoinOf left Pairs front z all → IsPairJoinOf left Pairs y z back → IsPairJoinOf left Pairs x back all
  joins_associate_of x y z front back all a b c d e f = record {
    joined = join_associates right x.1 y.1 z.1 front.1 back.1 all.1 a.low.lawful b.low.lawful c.low.lawful d.joined e.joined f.joined;
    high = e.high;
  }

  pub joins_repeat_of : (x : Sides) → IsMmPairOf left right Pairs x → IsPairJoinOf left Pairs x x x
  joins_repeat_of x fit = record { joined = join_repeats right x.1 fit.low.lawful; high = fit.high }

  pub joins_least_of : (x y : Sides) → IsLeastPairOf left right Pairs x → IsMmPairOf left right Pairs y → IsPairJoinOf left Pairs x y y
  joins_least_of x y is fit = record { joined = join_zero right x.1 y.1 is.zero fit.low.lawful; high = fit.high }

  pub before_chains_of : (x y z : Sides) → IsMmPairOf left right Pairs x → IsMmPairOf left right Pairs y → RightBefore x y → RightBefore y z → RightBefore x z
  before_chains_of x y z a b one two = before_chains right x.1 y.1 z.1 a.low.lawful b.low.lawful one two

  pub before_decides_of : (x y : Sides) → IsMmPairOf left right Pairs x → IsMmPairOf left right Pairs y → RightBefore x y ⊎ ((x ≡ y) ⊎ RightBefore y x)
  before_decides_of x y a b =
      elim (before_decides right x.1 y.1 a.low.lawful b.low.lawful) [
        | inl before ↦ inl before
        | inr rest ↦ elim rest [
          | inl same ↦ inr (inl (same_right_of x y a.high b.high same))
          | inr after ↦ inr (inr after)
        ]
      ]

pub right_never_before : (x : Sides) → RightBefore x x → ⊥
right_never_before x before = before_never x.1 before
