-- The right sides of two states, as they are found one after another.
use Rattle.std.proofs.Common.{◌≡◌, ℕ, ◌+◌, ◌<◌, ◌≤◌, ◌↔◌, inl, inr, List, subst, arith}
use Rattle.std.proofs.lemmas.Bool.{cases_lt}
use Rattle.hs_lattice.specs.Collection.{Adds, Knows}
use Rattle.hs_lattice.specs.Laws.Members.{All-added, Contains-added, Contains-same, Contains-value}
use Rattle.kiss_file.specs.declared.file.KissFile.{KissFile}
use Rattle.mm_lattice.specs.Generators.{IsRightOf}
use Rattle.mm_lattice.specs.Inner.RightSides.{AreRights, HasRight, HaveRights}

-- Right sides: those of the states before t with each other, and of t with the states before s.
pub record IsCollecting (F : KissFile) (t s : ℕ) (found : List (List ℕ)) : Type 0 where
  pub rights : AreRights F found
  pub before : HaveRights F t found
  pub here : (r : ℕ) → r < s → HasRight F found r t

has_still : (F : KissFile) (found more : List (List ℕ)) (s t : ℕ) (right : List ℕ) → Adds (λ q. q) found right more → HasRight F found s t → HasRight F more s t
has_still F found more s t right adds (q, among, is) = (q, Contains-added found right more q adds among, is)

pub collecting_more : (F : KissFile) (t s : ℕ) (found more : List (List ℕ)) (right : List ℕ) → s < t → IsCollecting F t s found → IsRightOf F s t right → Adds (λ q. q) found right more → IsCollecting F t (s + 1) more
collecting_more F t s found more right order so_far is adds = record {
  rights = All-added (λ q. (a : ℕ) × (b : ℕ) × IsRightOf F a b q) found right more adds so_far.rights (s, t, is);
  before = λ a b less below. has_still F found more a b right adds (so_far.before a b less below);
  here = λ r less. elim (cases_lt r s) [
    | inl before ↦ has_still F found more r t right adds (so_far.here r before)
    | inr last ↦ let at : s ≡ r = omega arith in subst (λ (n : ℕ). HasRight F more n t) at (right, Contains-value found right more adds, is)
  ];
}

pub collecting_done : (F : KissFile) (t s : ℕ) (found : List (List ℕ)) → IsCollecting F t s found → t ≤ s → HaveRights F (t + 1) found
collecting_done F t s found so_far ended a b order below =
    elim (cases_lt b t) [
      | inl before ↦ so_far.before a b order before
      | inr last ↦ let at : t ≡ b = omega arith in subst (λ (n : ℕ). HasRight F found a n) at (so_far.here a (omega arith))
    ]

-- another list of the same partitions has those of the same states
pub have_same : (F : KissFile) (count : ℕ) (found others : List (List ℕ)) → ((z : List ℕ) → Knows (λ q. q) others z ↔ Knows (λ q. q) found z) → HaveRights F count found → HaveRights F count others
have_same F count found others same have s t order below =
    let has = have s t order below in
    (has.0, Contains-same found others has.0 same has.1, has.2)
