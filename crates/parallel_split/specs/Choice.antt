-- Which parallel split, as steps, since these decide which of several right ones is given (source: this project).
use Rattle.std.specs.Prelude.{◌≡◌, ℕ, ◌<◌, ◌⊎◌, All, AllPairs, List, [], ◌∷◌, ◌++◌, length, map}
use Rattle.std.specs.List.Sorted.{IsPermutation}
use Rattle.kiss_file.specs.declared.file.KissFile.{KissFile}
use Rattle.partition.specs.Partition.{IsOne, IsPartition, IsZero, Together, zero_of}
use Rattle.partition.specs.MeetAndJoin.{IsMeet}
use Rattle.partition.specs.Order.{Before}
use Rattle.closed_lattice.specs.ClosedPartitions.{IsPrincipal}
use Rattle.pair_operators.specs.Growth.{IsGrowth}
use Rattle.closed_lattice.specs.Limits.{HoldsApart}
use Rattle.state_codes.specs.declared.split.Part.{Part}

-- the least s, then the least t above s, that are together in c
pub record IsFirstHeld (c : List ℕ) (s t : ℕ) : Type 0 where
  pub order : s < t
  pub held : Together c s t
  pub first : (u v : ℕ) → u < s → u < v → Together c u v → ⊥
  pub least : (v : ℕ) → s < v → v < t → Together c s v → ⊥

-- p is the growth of zero as long as s and t are in two blocks, over the least closed partitions of pairs of states
abbrev pub IsSeparating : KissFile → ℕ → ℕ → List ℕ → Type 0
IsSeparating F s t p = IsGrowth (IsPrincipal F) (HoldsApart s t) (length F.states) (zero_of (length F.states)) p

-- As long as c is not zero, the partition that separates the first two states together in c is a member, and c
-- becomes its meet with that member. At the end it is d.
abbrev pub SeparatesTo : KissFile → List ℕ → List (List ℕ) → List ℕ → Type 0
SeparatesTo F c [] d = c ≡ d
SeparatesTo F c (p ∷ members) d =
    (s : ℕ) × (t : ℕ) × IsFirstHeld c s t × IsSeparating F s t p × ((next : List ℕ) × IsMeet c p next × SeparatesTo F next members d)

-- no two of n states are together in each of the partitions
abbrev pub AllMeetInZero : ℕ → List (List ℕ) → Type 0
AllMeetInZero n members = (s t : ℕ) → s < n → t < n → All (λ p. Together p s t) members → s ≡ t

-- From first to last, a member is left out where the meet of the others that remain is zero. Those in `kept` stay,
-- those in the second list are still to be judged, and the last list is what remains.
abbrev pub LeavesOut : ℕ → List (List ℕ) → List (List ℕ) → List (List ℕ) → Type 0
LeavesOut n kept [] remaining = kept ≡ remaining
LeavesOut n kept (p ∷ members) remaining =
    (AllMeetInZero n (kept ++ members) × LeavesOut n kept members remaining)
    ⊎ ((AllMeetInZero n (kept ++ members) → ⊥) × LeavesOut n (kept ++ p ∷ []) members remaining)

-- the members from one down to zero, put in order, without those that are left out
pub record IsParallelChoice (F : KissFile) (parts : List Part) : Type 0 where
  pub one : List ℕ
  pub one_lawful : IsPartition (length F.states) one
  pub one_is : IsOne one
  pub zero : List ℕ
  pub zero_is : IsZero zero
  pub members : List (List ℕ)
  pub separates : SeparatesTo F one members zero
  pub ordered : List (List ℕ)
  pub permutes : IsPermutation members ordered
  pub ascending : AllPairs Before ordered
  pub remaining : LeavesOut (length F.states) [] ordered (map (λ part. part.partition) parts)
