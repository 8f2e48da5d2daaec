-- Right sides are the joins of the right sides of two states, in the world of partitions and in that of Mm pairs.
use Rattle.std.proofs.Common.{◌≡◌, ℕ, ◌<◌, All, Bool, Contains, List, length, refl, sym, ◌∙◌, subst, inl, inr, arith}
use Rattle.hs_lattice.specs.JoinWorld.{IsGenerated, HaveJoins}
use Rattle.hs_lattice.specs.Laws.{IsGenerated-has}
use Rattle.kiss_file.specs.declared.file.KissFile.{KissFile}
use Rattle.kiss_file.specs.Machine.{next}
use Rattle.partition.specs.Laws.Chains.{together_turned}
use Rattle.partition.specs.Laws.Generating.{IsGoing, right_generated_by, right_made}
use Rattle.partition.specs.MeetAndJoin.{IsJoin}
use Rattle.partition.specs.Partition.{Together, zero_of}
use Rattle.partition.specs.Partners.{IsLeastWith, IsMmPairOf, PairBy}
use Rattle.partition.specs.Sides.{Sides}
use Rattle.mm_lattice.specs.Generators.{IsRightOf}
use Rattle.mm_lattice.specs.Inner.RightSides.{HaveRights}
use Rattle.mm_lattice.specs.Laws.{mm_joins_fit, mm_least_fits, same_right}
use Rattle.mm_lattice.specs.MmPairs.{IsLeastMmPair, IsMmJoin, IsMmPair}
use Rattle.mm_lattice.specs.Top.{IsRightSide}

-- the joins of lists of pairs
abbrev pub IsMade : KissFile → List Sides → Sides → Type 0
IsMade F generators x = IsGenerated (IsLeastMmPair F) (IsMmJoin F) generators x

-- joins of Mm pairs are Mm pairs
pub made_fits : (F : KissFile) (generators : List Sides) (x : Sides) → All (IsMmPair F) generators → IsMade F generators x → IsMmPair F x
made_fits F generators x fit made =
    IsGenerated-has (IsLeastMmPair F) (IsMmJoin F) (IsMmPair F) generators x (mm_least_fits F) (λ a b c left right joined. mm_joins_fit F a b c left right joined) fit made

-- for each symbol the two states go to states that are together
abbrev GoTogether : KissFile → List ℕ → (s t : ℕ) → Type 0
GoTogether F q s t = (x : List Bool) → length x ≡ F.inputs → Together q (next F s x) (next F t x)

states_going : (F : KissFile) → IsGoing (GoTogether F)
states_going F = record {
  above = λ q r s t le go x width. le _ _ (go x width);
  itself = λ q r s same go x width. let held = go x width in (omega (arith, held.0, same), omega (arith, held.0, same), refl);
  by_third = λ q third s t one two x width. let first = one x width in let second = two x width in (first.1, second.1, sym first.2 ∙ second.2);
}

-- an Mm pair, for this relation
going_pair : (F : KissFile) (x : Sides) → IsMmPair F x → IsMmPairOf (length F.states) (length F.states) (PairBy (GoTogether F)) x
going_pair F x is = record {
  low = record {
    lawful = is.low.lawful;
    has = λ s t held y width. is.low.pair s t y held width;
    least = λ other lawful pair. is.low.least other lawful (λ s t y held width. pair s t held y width);
  };
  high = record {
    lawful = is.high.lawful;
    has = λ s t held y width. is.high.pair s t y held width;
    greatest = λ other lawful pair. is.high.greatest other lawful (λ s t y held width. pair s t held y width);
  };
}

-- m of the partition that holds two states together and nothing else is the least in which they go together
pub going_right : (F : KissFile) (s t : ℕ) (q : List ℕ) → IsRightOf F s t q → IsLeastWith (length F.states) (λ r. GoTogether F r s t) q
going_right F s t q right = record {
  lawful = right.low.lawful;
  has = λ x width. right.low.pair s t x right.holds.held width;
  least = λ other lawful go. right.low.least other lawful (λ u v x held width. elim (right.holds.nothing_else u v held) [
    | inl same ↦
        let stays = right.low.pair u u x (held.0, held.0, refl) width in
        let inside : next F u x < length other = omega (arith, stays.0, right.low.lawful.length, lawful.length) in
        subst (λ (k : ℕ). Together other (next F u x) (next F k x)) same (inside, inside, refl)
    | inr rest ↦ elim rest [
      | inl (first, second) ↦ subst (λ (k : ℕ). Together other (next F u x) (next F k x)) (sym second) (subst (λ (k : ℕ). Together other (next F k x) (next F t x)) (sym first) (go x width))
      | inr (first, second) ↦
          subst (λ (k : ℕ). Together other (next F u x) (next F k x)) (sym second)
          (subst (λ (k : ℕ). Together other (next F k x) (next F s x)) (sym first) (together_turned other (next F s x) (next F t x) (go x width)))
    ]
  ]);
}

-- a right side is a join of right sides of two states
pub right_generated : (F : KissFile) (found : List (List ℕ)) → HaveRights F (length F.states) found → HaveJoins (λ q. q ≡ zero_of (length F.states)) IsJoin found → (q : List ℕ) → IsRightSide F q → IsGenerated (λ q. q ≡ zero_of (length F.states)) IsJoin found q
right_generated F found have joins q (p, is) =
    right_generated_by (length F.states) (length F.states) (GoTogether F) (states_going F) found
    (λ s t order below. let (g, among, right) = have s t order below in (g, among, going_right F s t g right)) joins (p, q) (going_pair F (p, q) is)

-- an Mm pair is a join of Mm pairs of two states
pub fit_made : (F : KissFile) (generators : List Sides) → All (IsMmPair F) generators →
    ((s t : ℕ) → s < t → t < length F.states → (g : Sides) × Contains generators g × IsRightOf F s t g.1) →
    (z : Sides) → IsMmPair F z → HaveJoins (IsLeastMmPair F) (IsMmJoin F) generators → IsMade F generators z
fit_made F generators fit have z is joins =
    let made = right_made (length F.states) (length F.states) (GoTogether F) (states_going F) Sides (λ (x : Sides). x.1) generators
    (λ s t order below. let found = have s t order below in (found.0, found.1, going_right F s t found.0.1 found.2))
    z.0 z.1 (going_pair F z is) (IsLeastMmPair F) (IsMmJoin F) (record { bottom = λ x least. least.0; joined = λ a b c is_join. is_join.0 }) joins in
    subst (IsMade F generators) (same_right F made.0 z (made_fits F generators made.0 fit made.1).high is.high made.2) made.1
