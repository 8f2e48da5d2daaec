-- Pairs and their numbers.
use Rattle.std.proofs.Common.{◌≡◌, ℕ, zero, suc, ◌+◌, ◌-◌, ◌<◌, ◌≤◌, Option, List, [], ◌∷◌, ◌++◌, All, AllPairs, Some, length, get_or, slice_get, take, refl, sym, ap, ◌∙◌, subst, inl, inr, arith}
use Rattle.std.proofs.lemmas.Bool.{cases_lt}
use Rattle.std.proofs.lemmas.List.{append_assoc, append-nil, length-append, length-take-le, take_all, take_more}
use Rattle.std.proofs.lemmas.List.Elements.{All-get_or, All-head, All-tail}
use Rattle.std.proofs.lemmas.List.Sums.{sum_by-cons}
use Rattle.std.proofs.lemmas.Option.{get_or_from_slice_get, none-some, same_Some, slice_get_within, slice_get-get_or}
use Rattle.list_facts.specs.Laws.Places.{get_behind}
use Rattle.cover_split.specs.StateCover.{Has, IsBlock, block_at, places_of}
use Rattle.cover_split.specs.Expansion.{IsPair, pairs_from, pairs_of, pairs_with}

-- where the pairs of the block of that number begin
unfoldable pub start_of : List (List ℕ) → ℕ → ℕ
start_of [] j = 0
start_of (block ∷ blocks) zero = 0
start_of (block ∷ blocks) (suc j) = length block + start_of blocks j

-- a pair that is there
abbrev made : ℕ → ℕ → Option (ℕ × ℕ)
made j s = Some (j, s)

-- ---- reading an appended list
get_left : {X : Type 0} (xs ys : List X) (i : ℕ) → i < length xs → slice_get (xs ++ ys) i ≡ slice_get xs i
get_left [] ys i lt = absurd (omega arith)
get_left (x ∷ xs) ys zero lt = refl
get_left (x ∷ xs) ys (suc i) lt = get_left xs ys i (omega arith)

get_with : (b : ℕ) (xs : List ℕ) (i s : ℕ) → slice_get xs i ≡ Some s → slice_get (pairs_with b xs) i ≡ Some (b, s)
get_with b [] i s there = absurd (none-some s there)
get_with b (x ∷ xs) zero s there = ap (made b) (same_Some x s there)
get_with b (x ∷ xs) (suc i) s there = get_with b xs i s there

length-tagged : (b : ℕ) (block : List ℕ) → length (pairs_with b block) ≡ length block
length-tagged b [] = refl
length-tagged b (s ∷ block) = ap suc (length-tagged b block)

-- ---- from a block and a place in it to the pair
pub pair_from : (b : ℕ) (blocks : List (List ℕ)) (j k s : ℕ) → slice_get (block_at blocks j) k ≡ Some s → slice_get (pairs_from b blocks) (start_of blocks j + k) ≡ Some (b + j, s)
unfolding start_of
pair_from b [] j k s there = absurd (none-some s there)
pair_from b (block ∷ blocks) zero k s there =
    let e : 0 + k ≡ k = omega arith in
    let same : b ≡ b + 0 = omega arith in
    ap (slice_get (pairs_from b (block ∷ blocks))) e
    ∙ get_left (pairs_with b block) (pairs_from (suc b) blocks) k (omega (arith, slice_get_within block k s there, length-tagged b block))
    ∙ get_with b block k s there ∙ ap (λ (n : ℕ). made n s) same
pair_from b (block ∷ blocks) (suc j) k s there =
    let e : length block + start_of blocks j + k ≡ length (pairs_with b block) + (start_of blocks j + k) = omega (arith, length-tagged b block) in
    let same : suc b + j ≡ b + suc j = omega arith in
    ap (slice_get (pairs_from b (block ∷ blocks))) e ∙ get_behind (pairs_with b block) (pairs_from (suc b) blocks) (start_of blocks j + k)
    ∙ pair_from (suc b) blocks j k s there ∙ ap (λ (n : ℕ). made n s) same

-- the block of a pair, and its place there
pub record IsPlaced (b : ℕ) (blocks : List (List ℕ)) (i j s : ℕ) : Type 0 where
  pub block : ℕ
  pub place : ℕ
  pub is_block : j ≡ b + block
  pub within : block < length blocks
  pub at_place : slice_get (block_at blocks block) place ≡ Some s
  pub number : i ≡ start_of blocks block + place

pub placed_from : (b : ℕ) (blocks : List (List ℕ)) (i j s : ℕ) → slice_get (pairs_from b blocks) i ≡ Some (j, s) → IsPlaced b blocks i j s
unfolding start_of
placed_from b [] i j s there = absurd (none-some (j, s) there)
placed_from b (block ∷ blocks) i j s there =
    elim (cases_lt i (length block)) [
      | inl here ↦
          let state : ℕ = get_or block i 0 in
          let at : slice_get block i ≡ Some state = slice_get-get_or block i 0 here in
          let both : made b state ≡ made j s = sym (get_left (pairs_with b block) (pairs_from (suc b) blocks) i (omega (arith, length-tagged b block)) ∙ get_with b block i state at) ∙ there in
          let pair = same_Some {A = ℕ × ℕ} (b, state) (j, s) both in
          let first : b ≡ j = ap (λ (p : ℕ × ℕ). p.0) pair in
          let second : state ≡ s = ap (λ (p : ℕ × ℕ). p.1) pair in
          record { block = 0; place = i; is_block = omega arith; within = omega arith; at_place = at ∙ ap Some second; number = omega arith }
      | inr past ↦
          let rest : ℕ = i - length block in
          let e : length (pairs_with b block) + rest ≡ i = omega (arith, length-tagged b block) in
          let it = placed_from (suc b) blocks rest j s (sym (ap (slice_get (pairs_from b (block ∷ blocks))) (sym e) ∙ get_behind (pairs_with b block) (pairs_from (suc b) blocks) rest) ∙ there) in
          record { block = suc it.block; place = it.place; is_block = omega (arith, it.is_block); within = omega (arith, it.within); at_place = it.at_place; number = omega (arith, it.number) }
    ]

-- ---- all pairs
pub length-pairs_from : (b : ℕ) (blocks : List (List ℕ)) → length (pairs_from b blocks) ≡ places_of blocks
length-pairs_from b [] = refl
length-pairs_from b (block ∷ blocks) =
    omega (arith, length-append (pairs_with b block) (pairs_from (suc b) blocks), length-tagged b block, length-pairs_from (suc b) blocks, sum_by-cons length block blocks)

pub length-pairs_of : (blocks : List (List ℕ)) → length (pairs_of blocks) ≡ places_of blocks
unfolding pairs_of
length-pairs_of blocks = length-pairs_from 0 blocks

pub placed : (blocks : List (List ℕ)) (i j s : ℕ) → IsPair blocks i j s → IsPlaced 0 blocks i j s
unfolding pairs_of
placed blocks i j s there = placed_from 0 blocks i j s there

pub pair_at : (blocks : List (List ℕ)) (j k s : ℕ) → slice_get (block_at blocks j) k ≡ Some s → IsPair blocks (start_of blocks j + k) j s
unfolding pairs_of
pair_at blocks j k s there = let e : 0 + j ≡ j = omega arith in pair_from 0 blocks j k s there ∙ ap (λ (n : ℕ). made n s) e

-- the block of a pair has its state
pub pair_has : (blocks : List (List ℕ)) (i j s : ℕ) → IsPair blocks i j s → (j < length blocks) × Has blocks j s
pair_has blocks i j s there =
    let it = placed blocks i j s there in
    let same : it.block ≡ j = omega (arith, it.is_block) in
    let block = block_at blocks it.block in (
      omega (arith, it.within, same),
      subst (λ (n : ℕ). Has blocks n s) same (it.place, slice_get_within block it.place s it.at_place, get_or_from_slice_get block it.place s s it.at_place),
    )

-- each state of a block has a pair
pub pair_of : (blocks : List (List ℕ)) (j s : ℕ) → Has blocks j s → (i : ℕ) × IsPair blocks i j s
pair_of blocks j s (k, within, is) =
    (start_of blocks j + k, pair_at blocks j k s (slice_get-get_or (block_at blocks j) k s within ∙ ap Some is))

-- a pair has one number
pub one_pair : (n : ℕ) (blocks : List (List ℕ)) → All (IsBlock n) blocks → (i k j s : ℕ) → IsPair blocks i j s → IsPair blocks k j s → i ≡ k
one_pair n blocks lawful i k j s first second =
    let one = placed blocks i j s first in
    let two = placed blocks k j s second in
    let same : one.block ≡ two.block = omega (arith, one.is_block, two.is_block) in
    let block = block_at blocks two.block in
    let up : AllPairs (λ a b. a < b) block = (All-get_or (IsBlock n) blocks two.block [] two.within lawful).ascending in
    let there : slice_get block one.place ≡ Some s = subst (λ (b : ℕ). slice_get (block_at blocks b) one.place ≡ Some s) same one.at_place in
    let starts : start_of blocks one.block ≡ start_of blocks two.block = ap (start_of blocks) same in
    let places : one.place ≡ two.place =
    elim (cases_lt one.place two.place) [
      | inl before ↦
          absurd (omega (arith, up one.place two.place 0 before (slice_get_within block two.place s two.at_place), get_or_from_slice_get block one.place s 0 there, get_or_from_slice_get block two.place s 0 two.at_place))
      | inr from_on ↦
          elim (cases_lt two.place one.place) [
            | inl behind ↦
                absurd (omega (arith, up two.place one.place 0 behind (slice_get_within block one.place s there), get_or_from_slice_get block one.place s 0 there, get_or_from_slice_get block two.place s 0 two.at_place))
            | inr level ↦ omega arith
          ]
    ] in
    omega (arith, one.number, two.number, starts, places)

-- each number below that of the pairs is that of one
pub some_pair : (blocks : List (List ℕ)) (i : ℕ) → i < length (pairs_of blocks) → (j s : ℕ) × IsPair blocks i j s
some_pair blocks i within =
    let pair = get_or (pairs_of blocks) i (0, 0) in (pair.0, pair.1, slice_get-get_or (pairs_of blocks) i (0, 0) within)

-- ---- pairs block by block
pairs_from-push : (b : ℕ) (blocks : List (List ℕ)) (block : List ℕ) → pairs_from b (blocks ++ block ∷ []) ≡ pairs_from b blocks ++ pairs_with (b + length blocks) block
pairs_from-push b [] block =
    let e : b ≡ b + 0 = omega arith in append-nil (pairs_with b block) ∙ ap (λ (n : ℕ). pairs_with n block) e
pairs_from-push b (first ∷ blocks) block =
    let e : suc b + length blocks ≡ b + suc (length blocks) = omega arith in
    ap (λ (rest : List (ℕ × ℕ)). pairs_with b first ++ rest) (pairs_from-push (suc b) blocks block ∙ ap (λ (n : ℕ). pairs_from (suc b) blocks ++ pairs_with n block) e)
    ∙ sym (append_assoc (pairs_with b first) (pairs_from (suc b) blocks) (pairs_with (b + suc (length blocks)) block))

pub pairs_of-take-more : (blocks : List (List ℕ)) (j : ℕ) → j < length blocks → pairs_of (take (j + 1) blocks) ≡ pairs_of (take j blocks) ++ pairs_with j (block_at blocks j)
unfolding pairs_of
pairs_of-take-more blocks j within =
    let e : 0 + length (take j blocks) ≡ j = omega (arith, length-take-le j blocks (omega arith)) in
    ap (pairs_from 0) (take_more blocks j [] within) ∙ pairs_from-push 0 (take j blocks) (block_at blocks j)
    ∙ ap (λ (n : ℕ). pairs_from 0 (take j blocks) ++ pairs_with n (block_at blocks j)) e

pub pairs_of-take-all : (blocks : List (List ℕ)) (j : ℕ) → length blocks ≤ j → pairs_of (take j blocks) ≡ pairs_of blocks
pairs_of-take-all blocks j past = ap pairs_of (take_all j blocks past)

pub pairs_of-none : pairs_of [] ≡ []
unfolding pairs_of
pairs_of-none = refl

-- there are at most as many blocks as places
pub few_blocks : (n : ℕ) (blocks : List (List ℕ)) → All (IsBlock n) blocks → length blocks ≤ places_of blocks
few_blocks n [] lawful = omega arith
few_blocks n (block ∷ blocks) lawful =
    omega (arith, (All-head (IsBlock n) block blocks lawful).some, few_blocks n blocks (All-tail (IsBlock n) block blocks lawful), sum_by-cons length block blocks)
