-- Joins of right sides of two members, which are right sides as soon as their greatest partner is there.
use Rattle.std.proofs.Common.{ℕ, ◌<◌, List, sym, ◌∙◌}
use Rattle.partition.specs.Partition.{IsStateCount, zero_of}
use Rattle.partition.specs.MeetAndJoin.{IsJoin, IsLeastAbove}
use Rattle.partition.specs.Laws.Chains.{join_is_least}
use Rattle.partition.specs.Laws.Extremes.{zero_of_is_partition}
use Rattle.partition.specs.Laws.Labels.{IsPartition-of}
use Rattle.partition.specs.Laws.World.{join_fits}
use Rattle.io_pairs.specs.Inner.RightSides.{IsFamilyMm, IsReached, IsRightOf}
use Rattle.io_pairs.specs.Inner.Families.{IsParted}
use Rattle.partition.specs.Laws.Extremes.{zero_of_below}
use Rattle.io_pairs.proofs.Going.{go_above}
use Rattle.io_pairs.proofs.Parting.{parted_greatest}

module _ (members values : ℕ) (functions : List (List ℕ)) where
  pub reached_zero : IsStateCount values → IsReached members values functions (zero_of values)
  reached_zero count = record {
    lawful = zero_of_is_partition values count;
    least = λ other lawful above. zero_of_below values other lawful;
  }

  -- the right side of two members itself
  pub reached_two : (x y : ℕ) (g : List ℕ) → x < members → y < members → IsRightOf values functions x y g → IsReached members values functions g
  reached_two x y g in_x in_y right = record {
    lawful = right.lawful;
    least = λ other lawful above. right.least other lawful (above x y in_x in_y right.has);
  }

  pub reached_join : (p q joined : List ℕ) → IsReached members values functions p → IsReached members values functions q → IsJoin p q joined → IsReached members values functions joined
  reached_join p q joined one two joins = record {
    lawful = join_fits values p q joined one.lawful joins;
    least = λ other lawful above.
        least.least other (IsPartition-of (sym one.lawful.length) lawful)
        (one.least other lawful (λ x y in_x in_y go. above x y in_x in_y (go_above functions p joined x y least.left go)))
        (two.least other lawful (λ x y in_x in_y go. above x y in_x in_y (go_above functions q joined x y least.right go)));
  }
    where
      least : IsLeastAbove p q joined
      least = join_is_least p q joined (two.lawful.length ∙ sym one.lawful.length) joins

  -- what is reached makes an Mm pair with its greatest partner
  pub reached_pair : (q p : List ℕ) → IsReached members values functions q → IsParted members functions q p → IsFamilyMm members values functions (p, q)
  reached_pair q p reached parted = record {
    low = record {
      lawful = reached.lawful;
      has = (parted_greatest members functions q p parted).has;
      least = λ other lawful pair. reached.least other lawful (λ x y in_x in_y go. pair x y ((parted.together x y in_x in_y).1 go));
    };
    high = parted_greatest members functions q p parted;
  }
