-- The least closed partitions of pairs, as they are found one after another.
use Rattle.std.proofs.Common.{◌≡◌, ℕ, ◌+◌, ◌<◌, ◌≤◌, ◌↔◌, inl, inr, All, AllPairs, List, Result, Ok, Err, IfOk, get_or, length, subst, sym, arith}
use Rattle.std.proofs.lemmas.Bool.{cases_lt}
use Rattle.hs_lattice.specs.Collection.{Adds, Knows}
use Rattle.hs_lattice.specs.Laws.Members.{All-added, Contains-added, Contains-same, Contains-value}
use Rattle.kiss_file.specs.declared.file.KissFile.{KissFile}
use Rattle.partition.specs.Partition.{IsOne, IsPartition, Together}
use Rattle.partition.specs.Laws.Labels.{IsPartition-of}
use Rattle.partition.specs.Order.{Before}
use Rattle.closed_lattice.specs.ClosedPartitions.{HasPrincipal, IsClosedPartition, IsPrincipal, IsPrincipalWithin}
use Rattle.closed_lattice.specs.Inner.Generators.{AreGenerators, HavePrincipals}

-- Those of the states before t with each other, and of t with the states before s.
pub record IsCollecting (F : KissFile) (top : List ℕ) (t s : ℕ) (found : List (List ℕ)) : Type 0 where
  pub members : All (IsPrincipalWithin F top) found
  pub before : HavePrincipals F top t found
  pub here : (r : ℕ) → r < s → Together top r t → HasPrincipal F found r t

has_still : (F : KissFile) (found more : List (List ℕ)) (s t : ℕ) (p : List ℕ) → Adds (λ q. q) found p more → HasPrincipal F found s t → HasPrincipal F more s t
has_still F found more s t p adds has = (has.0, Contains-added found p more has.0 adds has.1, has.2)

-- two states that are together
pub collecting_more : (F : KissFile) (top : List ℕ) (t s : ℕ) (found more : List (List ℕ)) (p : List ℕ) → s < t → Together top s t → IsCollecting F top t s found → IsPrincipal F s t p → Adds (λ q. q) found p more → IsCollecting F top t (s + 1) more
collecting_more F top t s found more p order held so_far principal adds = record {
  members = All-added (IsPrincipalWithin F top) found p more adds so_far.members (s, t, order, held, principal);
  before = λ a b less below together. has_still F found more a b p adds (so_far.before a b less below together);
  here = λ r less together. elim (cases_lt r s) [
    | inl before ↦ has_still F found more r t p adds (so_far.here r before together)
    | inr last ↦ let at : s ≡ r = omega arith in subst (λ (n : ℕ). HasPrincipal F more n t) at (p, Contains-value found p more adds, principal)
  ];
}

-- and two that are not
pub collecting_left : (F : KissFile) (top : List ℕ) (t s : ℕ) (found : List (List ℕ)) → (Together top s t → ⊥) → IsCollecting F top t s found → IsCollecting F top t (s + 1) found
collecting_left F top t s found apart so_far = record {
  members = so_far.members;
  before = so_far.before;
  here = λ r less together. elim (cases_lt r s) [
    | inl before ↦ so_far.here r before together
    | inr last ↦ let at : r ≡ s = omega arith in absurd (apart (subst (λ (n : ℕ). Together top n t) at together))
  ];
}

pub collecting_done : (F : KissFile) (top : List ℕ) (t s : ℕ) (found : List (List ℕ)) → IsCollecting F top t s found → t ≤ s → HavePrincipals F top (t + 1) found
collecting_done F top t s found all end a b order below together =
    elim (cases_lt b t) [
      | inl before ↦ all.before a b order before together
      | inr last ↦
          let at : b ≡ t = omega arith in
          subst (λ (n : ℕ). HasPrincipal F found a n) (sym at) (all.here a (omega arith) (subst (λ (n : ℕ). Together top a n) at together))
    ]

-- in another list of the same partitions stand those of the same pairs
pub have_same : (F : KissFile) (top : List ℕ) (count : ℕ) (found others : List (List ℕ)) → ((z : List ℕ) → Knows (λ q. q) others z ↔ Knows (λ q. q) found z) → HavePrincipals F top count found → HavePrincipals F top count others
have_same F top count found others same have s t order below together =
    let has = have s t order below together in
    (has.0, Contains-same found others has.0 same has.1, has.2)

pub closed_within : (F : KissFile) (top : List ℕ) (found : List (List ℕ)) → All (IsPrincipalWithin F top) found → All (IsClosedPartition F) found
closed_within F top found members k d within = let is = members k d within in (is.4.lawful, is.4.closed)

-- where top is one, each two states are together in it
pub all_generate : (F : KissFile) (top : List ℕ) (found : List (List ℕ)) → length top ≡ length F.states → IsOne top → AllPairs Before found → All (IsPrincipalWithin F top) found
    → ((s t : ℕ) → s < t → Together top s t → HasPrincipal F found s t) → AreGenerators F found
all_generate F top found size one ascending members each = record {
  closed = closed_within F top found members;
  some = λ k d within. let is = members k d within in (is.0, is.1, is.2, is.4.together);
  ascending = ascending;
  each = λ s t order below. each s t order (one s t (omega arith) (omega arith));
}

-- they are partitions of as many states
pub same_sizes : (F : KissFile) (found : List (List ℕ)) → AreGenerators F found → (i : ℕ) (p : List ℕ) → i < length found → p ≡ get_or found i p → IsPartition (length p) p × All (IsPartition (length p)) found
same_sizes F found are i p within read =
    let lawful = (subst (IsClosedPartition F) (sym read) (are.closed i p within)).0 in
    (IsPartition-of (sym lawful.length) lawful, (λ k d inside. IsPartition-of (sym lawful.length) (are.closed k d inside).0))

-- what follows of three facts of a value, if there is one
pub of_three : {X E : Type 0} (r : Result X E) (P Q R S : X → Type 0) → ((x : X) → P x → Q x → R x → S x) → IfOk r P → IfOk r Q → IfOk r R → IfOk r S
of_three (Ok x) P Q R S turn p q r = turn x p q r
of_three (Err e) P Q R S turn p q r = tt
