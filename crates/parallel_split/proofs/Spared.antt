-- Members that can be spared, one after another.
use Rattle.std.proofs.Common.{◌≡◌, ℕ, suc, ◌+◌, ◌<◌, ◌≤◌, inl, inr, All, List, [], length, take, drop, sym, subst, arith, add-one}
use Rattle.std.specs.List.{remove}
use Rattle.std.proofs.lemmas.List.{take_all, drop_all, take_at, drop_at, length-take-le}
use Rattle.std.proofs.lemmas.List.Elements.{All-append}
use Rattle.std.proofs.Math.Seq.{take-suc, drop-cons}
use Rattle.partition.specs.Partition.{IsOne, IsPartition, Together, blocks_of}
use Rattle.partition.specs.Laws.Blocks.{zero_blocks, zero_by_blocks}
use Rattle.state_codes.specs.Laws.Places.{All-left, All-right}
use Rattle.parallel_split.specs.Choice.{AllMeetInZero, LeavesOut}

-- what is left to do from this place on does it for the whole list
abbrev pub Leaving : ℕ → List (List ℕ) → List (List ℕ) → ℕ → Type 0
Leaving n old list place = (remaining : List (List ℕ)) → LeavesOut n (take place list) (drop place list) remaining → LeavesOut n [] old remaining

pub leaving_begun : (n : ℕ) (list : List (List ℕ)) → Leaving n list list 0
leaving_begun n list remaining rest = rest

pub leaving_kept : (n : ℕ) (old list : List (List ℕ)) (place : ℕ) → place < length list → Leaving n old list place → (AllMeetInZero n (remove list place) → ⊥) → Leaving n old list (place + 1)
leaving_kept n old list place within so_far needed remaining rest =
    so_far remaining (subst (λ (later : List (List ℕ)). LeavesOut n (take place list) later remaining) (sym (drop-cons list place [] within))
    (inr (needed, subst (λ (front : List (List ℕ)). LeavesOut n front (drop (suc place) list) remaining) (take-suc list place [] within) (rw add-one at rest))))

pub leaving_spared : (n : ℕ) (old list : List (List ℕ)) (place : ℕ) → place < length list → Leaving n old list place → AllMeetInZero n (remove list place) → Leaving n old (remove list place) place
leaving_spared n old list place within so_far spared remaining rest =
    so_far remaining (subst (λ (later : List (List ℕ)). LeavesOut n (take place list) later remaining) (sym (drop-cons list place [] within))
    (inl (spared, subst (λ (front : List (List ℕ)). LeavesOut n front (drop (suc place) list) remaining) front (subst (λ (later : List (List ℕ)). LeavesOut n (take place (remove list place)) later remaining) back rest))))
  where
    size : length (take place list) ≡ place
    size = length-take-le place list (omega arith)

    front : take place (remove list place) ≡ take place list
    front = take_at (take place list) (drop (suc place) list) place size

    back : drop place (remove list place) ≡ drop (suc place) list
    back = drop_at (take place list) (drop (suc place) list) place size

pub leaving_ended : (n : ℕ) (old list : List (List ℕ)) (place : ℕ) → length list ≤ place → Leaving n old list place → LeavesOut n [] old list
leaving_ended n old list place past so_far =
    so_far list (subst (λ (later : List (List ℕ)). LeavesOut n (take place list) later list) (sym none) (take_all place list past))
  where
    none : drop place list ≡ []
    none = drop_all place list past

-- the meet of one with those before a place and those after it is zero where these meet in zero
module _ (n place : ℕ) (list : List (List ℕ)) (one before others : List ℕ) (lawful : IsPartition n one) (is : IsOne one) (lawful_others : IsPartition n others)
    (first : (s t : ℕ) → (Together before s t → Together one s t × All (λ p. Together p s t) (take place list)) × (Together one s t × All (λ p. Together p s t) (take place list) → Together before s t))
    (second : (s t : ℕ) → (Together others s t → Together before s t × All (λ p. Together p s t) (drop (suc place) list)) × (Together before s t × All (λ p. Together p s t) (drop (suc place) list) → Together others s t)) where
  pub spared_by_blocks : blocks_of others ≡ n → AllMeetInZero n (remove list place)
  spared_by_blocks all s t in_s in_t each =
      zero_by_blocks n others lawful_others all s t
      ((second s t).1 ((first s t).1 (is s t (omega (arith, lawful.length)) (omega (arith, lawful.length)), All-left (λ p. Together p s t) (take place list) (drop (suc place) list) each), All-right (λ p. Together p s t) (take place list) (drop (suc place) list) each))

  pub blocks_where_spared : AllMeetInZero n (remove list place) → blocks_of others ≡ n
  blocks_where_spared spared =
      zero_blocks n others lawful_others (λ s t held.
      let late = (second s t).0 held in
      let early = (first s t).0 late.0 in
      spared s t (omega (arith, held.0, lawful_others.length)) (omega (arith, held.1, lawful_others.length)) (All-append (λ p. Together p s t) (take place list) (drop (suc place) list) early.1 late.1))
