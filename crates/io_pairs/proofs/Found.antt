-- The right sides of two members, as they are found one after another.
use Rattle.std.proofs.Common.{◌≡◌, ℕ, ◌+◌, ◌<◌, ◌≤◌, ◌↔◌, inl, inr, List, subst, sym, arith}
use Rattle.std.proofs.lemmas.Bool.{cases_lt}
use Rattle.hs_lattice.specs.Collection.{Adds, Knows}
use Rattle.hs_lattice.specs.Laws.Members.{All-added, Contains-added, Contains-same, Contains-value}
use Rattle.partition.specs.Partition.{IsPartition, Le, zero_of}
use Rattle.partition.specs.Laws.Labels.{IsPartition-of}
use Rattle.io_pairs.specs.Inner.RightSides.{AreRights, HasRight, HaveRights, IsRight, IsRightOf}
use Rattle.io_pairs.specs.Inner.Families.{Ties}
use Rattle.partition.specs.Laws.Extremes.{zero_of_below}

-- what begins with zero and holds what two members go to
pub right_tied : (values : ℕ) (functions : List (List ℕ)) (x y : ℕ) (zeros right : List ℕ) → IsPartition values zeros → zeros ≡ zero_of values → Ties functions x y zeros right → IsRightOf values functions x y right
right_tied values functions x y zeros right lawful is ties = record {
  lawful = IsPartition-of lawful.length ties.lawful;
  has = ties.go;
  least = λ other fits go. ties.least other (subst (λ (r : List ℕ). Le r other) (sym is) (zero_of_below values other fits)) go;
}

module _ (members values : ℕ) (functions : List (List ℕ)) where
  -- right sides: those of the members before y with each other, and of y with the first x members
  pub record IsCollecting (y x : ℕ) (found : List (List ℕ)) : Type 0 where
    pub rights : AreRights members values functions found
    pub before : HaveRights values functions y found
    pub here : (w : ℕ) → w < x → HasRight values functions found w y

  has_still : (found more : List (List ℕ)) (x y : ℕ) (right : List ℕ) → Adds (λ q. q) found right more → HasRight values functions found x y → HasRight values functions more x y
  has_still found more x y right adds (q, among, is) = (q, Contains-added found right more q adds among, is)

  pub collecting_more : (y x : ℕ) (found more : List (List ℕ)) (right : List ℕ) → x < members → y < members → IsCollecting y x found → IsRightOf values functions x y right → Adds (λ q. q) found right more → IsCollecting y (x + 1) more
  collecting_more y x found more right in_x in_y so_far is adds = record {
    rights = All-added (IsRight members values functions) found right more adds so_far.rights (record { x = x; y = y; in_x = in_x; in_y = in_y; right = is });
    before = λ a b less below. has_still found more a b right adds (so_far.before a b less below);
    here = λ w less. elim (cases_lt w x) [
      | inl before ↦ has_still found more w y right adds (so_far.here w before)
      | inr last ↦ let at : x ≡ w = omega arith in subst (λ (n : ℕ). HasRight values functions more n y) at (right, Contains-value found right more adds, is)
    ];
  }

  pub collecting_done : (y x : ℕ) (found : List (List ℕ)) → IsCollecting y x found → y ≤ x → HaveRights values functions (y + 1) found
  collecting_done y x found so_far ended a b order below =
      elim (cases_lt b y) [
        | inl before ↦ so_far.before a b order before
        | inr last ↦ let at : y ≡ b = omega arith in subst (λ (n : ℕ). HasRight values functions found a n) at (so_far.here a (omega arith))
      ]

  -- another list of the same partitions has those of the same members
  pub have_same : (count : ℕ) (found others : List (List ℕ)) → ((z : List ℕ) → Knows (λ q. q) others z ↔ Knows (λ q. q) found z) → HaveRights values functions count found → HaveRights values functions count others
  have_same count found others same have x y order below =
      let has = have x y order below in
      (has.0, Contains-same found others has.0 same has.1, has.2)
