-- How a block is read from its text, piece by piece.
use Rattle.std.proofs.Common.{◌≡◌, ◌≢◌, ℕ, ◌+◌, ◌<◌, ◌≤◌, ◌⊎◌, List, [], ◌∷◌, ◌++◌, All, AllPairs, Some, length, get_or, map, slice_get, refl, sym, ap, ◌∙◌, subst, inl, inr, arith}
use Rattle.std.proofs.lemmas.Bool.{cases_lt}
use Rattle.std.proofs.lemmas.Fmt.{decimal_injective}
use Rattle.std.proofs.lemmas.List.{ext_get_or, get_or_default, get_or-map, get_or_append_left, get_or_push, length-map, length_push}
use Rattle.std.proofs.lemmas.List.Elements.{All-get_or, All-nil, All-push}
use Rattle.std.proofs.lemmas.Option.{get_or_from_slice_get, same_Some, slice_get_read}
use Rattle.std.specs.Fmt.{decimal}
use Rattle.cover_split.specs.StateCover.{IsBlock}
use Rattle.cover_split.specs.Inner.Pieces.{IsBlockText, IsFirstBadPiece}
use Rattle.partition.specs.Text.{pieces_of}
use Rattle.cover_split.specs.Refusal.{IsStatePiece}

-- the least number that may stand next: 0 at first, and then one more than the last
abbrev pub IsLowest : List ℕ → ℕ → Type 0
IsLowest block low = ((length block ≡ 0) × (low ≡ 0)) ⊎ ((k : ℕ) × (k + 1 ≡ length block) × (get_or block k 0 + 1 ≡ low))

-- the first pieces are the numbers of these states
pub record IsReading (n : ℕ) (pieces : List (List ℕ)) (block : List ℕ) (low : ℕ) : Type 0 where
  pub spelled : (k : ℕ) → k < length block → slice_get pieces k ≡ Some (decimal (get_or block k 0))
  pub states : All (λ s. s < n) block
  pub ascending : AllPairs (λ s t. s < t) block
  pub lowest : IsLowest block low

pub reading_none : (n : ℕ) (pieces : List (List ℕ)) → IsReading n pieces [] 0
reading_none n pieces = record {
  spelled = λ k within. absurd (omega arith);
  states = All-nil (λ s. s < n);
  ascending = λ i j d before within. absurd (omega arith);
  lowest = inl (refl, refl);
}

-- all numbers so far are below the least that may come
below_low : (n : ℕ) (pieces : List (List ℕ)) (block : List ℕ) (low : ℕ) → IsReading n pieces block low → (k d : ℕ) → k < length block → get_or block k d < low
below_low n pieces block low so_far k d within = of so_far.lowest where
  of : IsLowest block low → get_or block k d < low
  of (inl (none, zero)) = absurd (omega arith)
  of (inr (last, at, is)) =
      elim (cases_lt k last) [
        | inl before ↦ omega (arith, so_far.ascending k last d before (omega arith), same_default last)
        | inr behind ↦ let here : k ≡ last = omega arith in omega (arith, ap (λ (i : ℕ). get_or block i d) here, same_default last)
      ] where
        same_default : (i : ℕ) → i + 1 ≡ length block → get_or block i d ≡ get_or block i 0
        same_default i inside = same block i inside where
          same : (xs : List ℕ) (i : ℕ) → i + 1 ≡ length xs → get_or xs i d ≡ get_or xs i 0
          same xs i inside = get_or_default xs i d 0 (omega arith)

-- one more
pub reading_more : (n : ℕ) (pieces : List (List ℕ)) (block new : List ℕ) (low state next : ℕ) (piece : List ℕ) → IsReading n pieces block low → low ≤ state → state < n
    → (length block < length pieces) × (piece ≡ get_or pieces (length block) piece) → piece ≡ decimal state → new ≡ block ++ state ∷ [] → next ≡ state + 1 → IsReading n pieces new next
reading_more n pieces block new low state next piece so_far from among turn is added after =
    subst (λ (xs : List ℕ). IsReading n pieces xs next) (sym added) record {
      spelled = spelled;
      states = All-push (λ s. s < n) block state so_far.states among;
      ascending = ascending;
      lowest = inr (length block, sym (length_push block state), omega (arith, get_or_push block state 0 (length block) refl));
    } where
      spelled : (k : ℕ) → k < length (block ++ state ∷ []) → slice_get pieces k ≡ Some (decimal (get_or (block ++ state ∷ []) k 0))
      spelled k within =
          elim (cases_lt k (length block)) [
            | inl old ↦ so_far.spelled k old ∙ ap (λ (s : ℕ). Some (decimal s)) (sym (get_or_append_left block (state ∷ []) 0 k old))
            | inr last ↦
                let here : length block ≡ k = omega (arith, length_push block state) in
                let there : slice_get pieces k ≡ Some piece = subst (λ (i : ℕ). slice_get pieces i ≡ Some piece) here (slice_get_read pieces (length pieces) (length block) piece refl turn.0 turn.1) in
                there ∙ ap Some (is ∙ ap decimal (sym (get_or_push block state 0 k here)))
          ]

      ascending : AllPairs (λ s t. s < t) (block ++ state ∷ [])
      ascending i j d before within =
          let first : get_or (block ++ state ∷ []) i d ≡ get_or block i d = get_or_append_left block (state ∷ []) d i (omega (arith, length_push block state)) in
          elim (cases_lt j (length block)) [
            | inl old ↦ omega (arith, first, get_or_append_left block (state ∷ []) d j old, so_far.ascending i j d before old)
            | inr last ↦
                let here : length block ≡ j = omega (arith, length_push block state) in
                omega (arith, first, get_or_push block state d j here, below_low n pieces block low so_far i d (omega arith))
          ]

-- what is read is a state piece
read_piece : (n : ℕ) (pieces : List (List ℕ)) (block : List ℕ) → n ≤ 256 → All (λ s. s < n) block → AllPairs (λ s t. s < t) block
    → ((k : ℕ) → k < length block → slice_get pieces k ≡ Some (decimal (get_or block k 0))) → (k : ℕ) → k < length block → IsStatePiece n pieces k
read_piece n pieces block few states ascending spelled k within = record {
  state = get_or block k 0;
  among = All-get_or (λ s. s < n) block k 0 within states;
  spelled = spelled k within;
  greater = λ before other next among there.
      let same : decimal (get_or block before 0) ≡ decimal other = same_Some (decimal (get_or block before 0)) (decimal other) (sym (spelled before (omega arith)) ∙ there) in
      let low : get_or block before 0 < n = All-get_or (λ s. s < n) block before 0 (omega arith) states in
      let is : get_or block before 0 ≡ other = decimal_injective (get_or block before 0) other (omega arith) (omega arith) same in
      omega (arith, ascending before k 0 (omega arith) within);
}

-- the next piece is the first that is no state piece
pub reading_bad : (n : ℕ) (pieces : List (List ℕ)) (block : List ℕ) (low : ℕ) (piece : List ℕ) → n ≤ 256 → IsReading n pieces block low
    → (length block < length pieces) × (piece ≡ get_or pieces (length block) piece) → ((state : ℕ) → low ≤ state → state < n → piece ≢ decimal state) → IsFirstBadPiece n pieces (length block)
reading_bad n pieces block low piece few so_far turn none = record {
  within = turn.0;
  bad = λ it. none it.state (high it so_far.lowest) it.among (same_Some piece (decimal it.state) (sym here ∙ it.spelled));
  before = λ earlier within. read_piece n pieces block few so_far.states so_far.ascending so_far.spelled earlier within;
} where
  here : slice_get pieces (length block) ≡ Some piece
  here = slice_get_read pieces (length pieces) (length block) piece refl turn.0 turn.1

  high : (it : IsStatePiece n pieces (length block)) → IsLowest block low → low ≤ it.state
  high it (inl (empty, zero)) = omega arith
  high it (inr (last, at, is)) =
      let among : get_or block last 0 < n = All-get_or (λ s. s < n) block last 0 (omega arith) so_far.states in
      omega (arith, it.greater last (get_or block last 0) at among (so_far.spelled last (omega arith)))

-- all pieces are read
pub same_spelled : (pieces : List (List ℕ)) (block : List ℕ) → length block ≡ length pieces → ((k : ℕ) → k < length block → slice_get pieces k ≡ Some (decimal (get_or block k 0)))
    → pieces ≡ map decimal block
same_spelled pieces block whole spelled =
    ext_get_or [] pieces (map decimal block) (sym (length-map block decimal ∙ whole))
    (λ k within.
    let inside : k < length block = omega arith in
    get_or_from_slice_get pieces k (decimal (get_or block k 0)) [] (spelled k inside) ∙ sym (get_or-map decimal block k 0 [] inside))

pub reading_whole : (n : ℕ) (text block : List ℕ) (low : ℕ) → 0 < length (pieces_of text) → IsReading n (pieces_of text) block low → length block ≡ length (pieces_of text)
    → IsBlockText n text block
reading_whole n text block low some so_far whole = record {
  lawful = record { some = omega arith; states = so_far.states; ascending = so_far.ascending };
  spelled = same_spelled (pieces_of text) block whole so_far.spelled;
}

-- each piece of a block of states is a state piece
pub block_pieces : (n : ℕ) (pieces : List (List ℕ)) (block : List ℕ) → n ≤ 256 → IsBlock n block → pieces ≡ map decimal block → (k : ℕ) → k < length pieces → IsStatePiece n pieces k
block_pieces n pieces block few lawful is k within =
    read_piece n pieces block few lawful.states lawful.ascending
    (λ i inside. slice_get_read pieces (length pieces) i (decimal (get_or block i 0)) refl (omega (arith, size))
    (sym (ap (λ (all : List (List ℕ)). get_or all i (decimal (get_or block i 0))) is ∙ get_or-map decimal block i 0 (decimal (get_or block i 0)) inside)))
    k (omega (arith, size))
  where
    size : length pieces ≡ length block
    size = ap length is ∙ length-map block decimal
