use Rattle.std.proofs.Common.{◌≡◌, ℕ, zero, suc, ◌<◌, List, [], ◌∷◌, Some, ap, codes, get_or, length, refl, sym, subst, arith}
use Rattle.std.specs.Fmt.{decimal, digits}
use Rattle.std.specs.List.{slice_get}
use Rattle.std.proofs.lemmas.Option.{same_Some}
use Rattle.cover_split.specs.Refusal.{AreStatePieces, IsStatePiece}
use Rattle.cover_split.specs.Text.{pieces_by_block}
use Rattle.cover_split.proofs.laws.worked_texts.Goals as goal

pub returns-clause-three : goal.returns-clause-three
unfolding digits
returns-clause-three c = refl

pub returns-clause-one : goal.returns-clause-one
unfolding digits
returns-clause-one c = refl

pub returns-clause-slash_parts_blocks : goal.returns-clause-slash_parts_blocks
unfolding digits
returns-clause-slash_parts_blocks c is = cc

pub returns-clause-comma_parts_states : goal.returns-clause-comma_parts_states
unfolding digits
returns-clause-comma_parts_states c is = cc

pub returns-clause-leading_zero : goal.returns-clause-leading_zero
unfolding digits
returns-clause-leading_zero c is = cc

-- three states and their pieces
spelled_as : (piece : List ℕ) (P : ℕ → Type 0) → (Some piece ≡ Some (decimal 0) → P 0) → (Some piece ≡ Some (decimal 1) → P 1) → (Some piece ≡ Some (decimal 2) → P 2) → (state : ℕ) → state < 3 → Some piece ≡ Some (decimal state) → P state
spelled_as piece P none one two zero among is = none is
spelled_as piece P none one two (suc zero) among is = one is
spelled_as piece P none one two (suc (suc zero)) among is = two is
spelled_as piece P none one two (suc (suc (suc more))) among is = absurd (omega (arith, among))

first_one : (pieces : List (List ℕ)) (state : ℕ) → state < 3 → slice_get pieces 0 ≡ Some (decimal state) → IsStatePiece 3 pieces 0
first_one pieces state among is = record { state = state; among = among; spelled = is; greater = λ before other next within there. absurd (omega (arith, next)) }

zero_is_not_two : Some (codes "0") ≡ Some (decimal 2) → ⊥
unfolding digits
zero_is_not_two is =
    let heads : 48 ≡ 50 = ap (λ (text : List ℕ). get_or text 0 0) (same_Some (codes "0") (decimal 2) is) in
    omega (arith, heads)

pub returns-clause-falling : goal.returns-clause-falling
unfolding digits
returns-clause-falling c = record {
  pieces = codes "1" ∷ codes "0" ∷ [];
  at_block = refl;
  within = omega arith;
  bad = λ piece.
      spelled_as (codes "0") (λ s. 1 < s → ⊥) (λ is above. absurd (omega (arith, above))) (λ is above. absurd (omega (arith, above))) (λ is above. zero_is_not_two is)
      piece.state piece.among piece.spelled (piece.greater 0 1 refl (omega arith) refl);
  before = λ earlier below. only earlier below;
  blocks_before = λ earlier others below there. absurd (omega (arith, below));
} where
  only : (earlier : ℕ) → earlier < 1 → IsStatePiece 3 (codes "1" ∷ codes "0" ∷ []) earlier
  only zero below = first_one (codes "1" ∷ codes "0" ∷ []) 1 (omega arith) refl
  only (suc more) below = absurd (omega (arith, below))

nothing_is_no_number : (state : ℕ) → state < 3 → Some [] ≡ Some (decimal state) → ⊥
unfolding digits
nothing_is_no_number = spelled_as [] (λ s. ⊥) (λ is. cc) (λ is. cc) (λ is. cc)

pub returns-clause-nothing : goal.returns-clause-nothing
unfolding digits
returns-clause-nothing c = record {
  pieces = [] ∷ [];
  at_block = refl;
  within = omega arith;
  bad = λ piece. nothing_is_no_number piece.state piece.among piece.spelled;
  before = λ earlier below. absurd (omega (arith, below));
  blocks_before = each;
} where
  alone : (others : List (List ℕ)) → Some (codes "0" ∷ []) ≡ Some others → (place : ℕ) → place < length others → IsStatePiece 3 others place
  alone others there place within =
      let same : codes "0" ∷ [] ≡ others = same_Some (codes "0" ∷ []) others there in
      let only : place ≡ 0 = omega (arith, within, ap (λ (list : List (List ℕ)). length list) same) in
      subst (λ (k : ℕ). IsStatePiece 3 others k) (sym only) (subst (λ (list : List (List ℕ)). IsStatePiece 3 list 0) same (first_one (codes "0" ∷ []) 0 (omega arith) refl))

  each : (earlier : ℕ) (others : List (List ℕ)) → earlier < 1 → slice_get (pieces_by_block (codes "0/")) earlier ≡ Some others → AreStatePieces 3 others
  each zero others below there = alone others there
  each (suc more) others below there = absurd (omega (arith, below))
