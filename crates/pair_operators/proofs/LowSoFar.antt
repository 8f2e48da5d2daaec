-- Next states of the states, one after another, are together with those of the least states of their blocks.
use Rattle.std.proofs.Common.{◌≡◌, ℕ, ◌+◌, ◌<◌, ◌≤◌, List, length, sym, subst, refl, arith}
use Rattle.kiss_file.specs.declared.file.KissFile.{KissFile}
use Rattle.machine_table.specs.MergedStates.{MergesImages}
use Rattle.machine_table.specs.NextStates.{NeverLeaves}
use Rattle.partition.specs.Partition.{IsPartition, Le}
use Rattle.partition.specs.NestedBlocks.{least_of}
use Rattle.partition.specs.Laws.Labels.{IsPartition-of}
use Rattle.partition.specs.Laws.Least.{least_of-le}
use Rattle.pair_operators.specs.Pair.{Pair}
use Rattle.pair_operators.specs.Extremes.{IsLow}
use Rattle.pair_operators.specs.NextBlocks.{Goes}
use Rattle.pair_operators.specs.Laws.Going.{goes_above, goes_itself, goes_merged, images_going}
use Rattle.pair_operators.proofs.Firsts.{FirstsGo, firsts_more, pair_from_firsts, firsts_from_pair}

-- after so many states: each goes with the least state of its block, and what is together has to be
pub record IsLowSoFar (F : KissFile) (p : List ℕ) (count : ℕ) (q : List ℕ) : Type 0 where
  pub lawful : IsPartition (length F.states) q
  pub firsts : FirstsGo F p q count
  pub least : (other : List ℕ) → IsPartition (length F.states) other → Pair F p other → Le q other

-- the state goes to what its block's least state goes to
pub low_held : (F : KissFile) (p : List ℕ) (s first : ℕ) (q r : List ℕ) → s < length p → first ≡ least_of p s → IsLowSoFar F p s q → MergesImages F first s q r → IsLowSoFar F p (s + 1) r
low_held F p s first q r within is so_far merged = record {
  lawful = IsPartition-of so_far.lawful.length merged.lawful;
  firsts = firsts_more F p r s (λ t below. goes_above F q r (least_of p t) t merged.above (so_far.firsts t below)) (subst (λ (u : ℕ). Goes F r u s) is (goes_merged F q r first s merged));
  least = λ other lawful pair.
      merged.least other (IsPartition-of (sym so_far.lawful.length) lawful) (so_far.least other lawful pair)
      (images_going F other first s (subst (λ (u : ℕ). Goes F other u s) (sym is) (firsts_from_pair F p other pair s within)));
}

-- the state is the least of its block
pub low_alone : (F : KissFile) (p : List ℕ) (s first : ℕ) (q : List ℕ) → NeverLeaves F → s < length F.states → first ≡ least_of p s → s ≤ first → IsLowSoFar F p s q → IsLowSoFar F p (s + 1) q
low_alone F p s first q stays within is high so_far =
    let itself : least_of p s ≡ s = omega (arith, least_of-le p s s refl) in
    record {
      lawful = so_far.lawful;
      firsts = firsts_more F p q s so_far.firsts (subst (λ (u : ℕ). Goes F q u s) (sym itself) (goes_itself F q s stays so_far.lawful.length within));
      least = so_far.least;
    }

pub low_all : (F : KissFile) (p : List ℕ) (count : ℕ) (q : List ℕ) → length p ≡ count → IsLowSoFar F p count q → IsLow F p q
low_all F p count q size so_far = record {
  lawful = so_far.lawful;
  pair = pair_from_firsts F p q (subst (λ (n : ℕ). FirstsGo F p q n) (sym size) so_far.firsts);
  least = so_far.least;
}
