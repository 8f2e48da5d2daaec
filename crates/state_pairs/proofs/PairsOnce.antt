-- Pairs of states are put into a list once, as a table says which are in it.
use Rattle.std.proofs.Common.{◌≡◌, ◌≢◌, ℕ, ◌*◌, ◌%◌, ◌^◌, ◌<◌, ◌≤◌, bit_or, List, [], ◌∷◌, ◌++◌, length, get_or, set, replicate, Contains, AllPairs, inl, inr, sym, ◌∙◌, subst, ap, arith, length-append, length-set}
use Rattle.std.proofs.lemmas.Bool.{cases_eq, cases_lt}
use Rattle.std.proofs.lemmas.List.{get_or-replicate, length-replicate, get_or-set_same, get_or-set_other, get_or_append_left, get_or_push}
use Rattle.std.proofs.lemmas.List.Elements.{Contains-append_left, Contains-get_or, Contains-push, Contains-push_cases}
use Rattle.std.specs.Int.{bit_at, w64}
use Rattle.std.proofs.lemmas.Nat.Bits.{bit_at-zero, bit_at_set_other, bit_at_set_same}
use Rattle.state_pairs.specs.SeenPairs.{AreSeen, word_of_pair}

-- a pair behind others from which it differs
once_more : (pairs : List (ℕ × ℕ)) (pair : ℕ × ℕ) → AllPairs (λ a b. a ≢ b) pairs → (Contains pairs pair → ⊥) → AllPairs (λ a b. a ≢ b) (pairs ++ pair ∷ [])
once_more pairs pair known new i j d before within =
    elim (cases_lt j (length pairs)) [
      | inl inside ↦
          let earlier : i < length pairs = omega arith in
          rw (get_or_append_left pairs (pair ∷ []) d i earlier) (rw (get_or_append_left pairs (pair ∷ []) d j inside) (known i j d before inside))
      | inr last ↦
          let at_end : length pairs ≡ j = omega (arith, length-append pairs (pair ∷ []), within, last) in
          let earlier : i < length pairs = omega arith in
          λ same.
          new
          (subst (λ (p : ℕ × ℕ). Contains pairs p)
          (sym (get_or_append_left pairs (pair ∷ []) d i earlier) ∙ same ∙ get_or_push pairs pair d j at_end)
          (Contains-get_or pairs i d earlier))
    ]

-- at first the list is empty and the table says so
pub seen_none : (pairs : List (ℕ × ℕ)) (seen : List ℕ) (states : ℕ) → pairs ≡ [] → seen ≡ replicate (states * 4) 0 → states ≤ 256 → AreSeen pairs seen states
seen_none pairs seen states none is few = record {
  few = few;
  size = ap (λ (list : List ℕ). length list) is ∙ length-replicate (states * 4) 0;
  each = λ u v low also.
      let place : word_of_pair u v < states * 4 = omega (arith, low, also, few) in
      let there : get_or seen (word_of_pair u v) 0 ≡ 0 = ap (λ (list : List ℕ). get_or list (word_of_pair u v) 0) is ∙ get_or-replicate (states * 4) (word_of_pair u v) 0 0 place in
      let unset : bit_at (get_or seen (word_of_pair u v) 0) (v % 64) ≡ 0 = ap (λ n. bit_at n (v % 64)) there ∙ bit_at-zero (v % 64) in (
        λ one. absurd (omega (arith, unset, one)),
        λ among. absurd (let within = (subst (λ (list : List (ℕ × ℕ)). Contains list (u, v)) none among).1 in omega (arith, within)),
      );
  once = subst (λ (list : List (ℕ × ℕ)). AllPairs (λ a b. a ≢ b) list) (sym none) (λ i j d before within. absurd (omega (arith, within)));
}

module _ (pairs : List (ℕ × ℕ)) (seen : List ℕ) (states u v : ℕ) (known : AreSeen pairs seen states) (first : u < states) (second : v < states) where
  abbrev pub old_word : ℕ
  old_word = get_or seen (word_of_pair u v) 0

  abbrev pub new_word : ℕ
  new_word = bit_or old_word (1 * 2 ^ (v % 64) % 2 ^ 64)

  -- the word of a pair of states is in the table
  pub word_inside : word_of_pair u v < length seen
  word_inside = omega (arith, known.size, known.few)

  low_place : v % 64 < 64
  low_place = omega arith

  -- a pair that is not in the list is put behind the others
  pub seen_more : bit_at old_word (v % 64) ≡ 0 → AreSeen (pairs ++ (u, v) ∷ []) (set seen (word_of_pair u v) new_word) states
  seen_more not_there = record {
    few = known.few;
    size = length-set seen (word_of_pair u v) new_word ∙ known.size;
    each = λ a b low also. (there a b low also, back a b low also);
    once = once_more pairs (u, v) known.once (λ among. let one = (known.each u v first second).1 among in omega (arith, not_there, one));
  }
    where
      same_pair : (a b : ℕ) → a < states → b < states → word_of_pair a b ≡ word_of_pair u v → b % 64 ≡ v % 64 → ◌≡◌ {A = ℕ × ℕ} (u, v) (a, b)
      same_pair a b low also word place =
          let few = known.few in
          let left : u ≡ a = omega (arith, word, place, few, low, also, first, second) in
          let right : v ≡ b = omega (arith, word, place, few, low, also, first, second) in
          ap (λ (n : ℕ). (n, v)) left ∙ ap (λ (n : ℕ). (a, n)) right

      -- the bit of another pair is as it was
      kept : (a b : ℕ) → ((word_of_pair a b ≡ word_of_pair u v) → (b % 64 ≡ v % 64) → ⊥)
          → bit_at (get_or (set seen (word_of_pair u v) new_word) (word_of_pair a b) 0) (b % 64) ≡ bit_at (get_or seen (word_of_pair a b) 0) (b % 64)
      kept a b other =
          elim (cases_eq (word_of_pair a b) (word_of_pair u v)) [
            | inl same ↦
                ap (λ n. bit_at (get_or (set seen (word_of_pair u v) new_word) n 0) (b % 64)) same
                ∙ ap (λ n. bit_at n (b % 64)) (get_or-set_same seen (word_of_pair u v) new_word 0 word_inside)
                ∙ bit_at_set_other w64 old_word (v % 64) low_place (b % 64) (other same)
                ∙ ap (λ n. bit_at (get_or seen n 0) (b % 64)) (sym same)
            | inr apart ↦ ap (λ n. bit_at n (b % 64)) (get_or-set_other seen (word_of_pair u v) (word_of_pair a b) new_word 0 apart)
          ]

      there : (a b : ℕ) → a < states → b < states → bit_at (get_or (set seen (word_of_pair u v) new_word) (word_of_pair a b) 0) (b % 64) ≡ 1 → Contains (pairs ++ (u, v) ∷ []) (a, b)
      there a b low also is =
          elim (cases_eq (word_of_pair a b) (word_of_pair u v)) [
            | inl word ↦
                elim (cases_eq (b % 64) (v % 64)) [
                  | inl place ↦ subst (λ (p : ℕ × ℕ). Contains (pairs ++ (u, v) ∷ []) p) (same_pair a b low also word place) (Contains-push pairs (u, v))
                  | inr other ↦ Contains-append_left pairs ((u, v) ∷ []) (a, b) ((known.each a b low also).0 (sym (kept a b (λ w p. other p)) ∙ is))
                ]
            | inr other ↦ Contains-append_left pairs ((u, v) ∷ []) (a, b) ((known.each a b low also).0 (sym (kept a b (λ w p. other w)) ∙ is))
          ]

      set_here : (a b : ℕ) → ◌≡◌ {A = ℕ × ℕ} (u, v) (a, b) → bit_at (get_or (set seen (word_of_pair u v) new_word) (word_of_pair a b) 0) (b % 64) ≡ 1
      set_here a b same =
          subst (λ (p : ℕ × ℕ). bit_at (get_or (set seen (word_of_pair u v) new_word) (word_of_pair p.0 p.1) 0) (p.1 % 64) ≡ 1) same
          (ap (λ n. bit_at n (v % 64)) (get_or-set_same seen (word_of_pair u v) new_word 0 word_inside) ∙ bit_at_set_same w64 old_word (v % 64) low_place)

      back : (a b : ℕ) → a < states → b < states → Contains (pairs ++ (u, v) ∷ []) (a, b) → bit_at (get_or (set seen (word_of_pair u v) new_word) (word_of_pair a b) 0) (b % 64) ≡ 1
      back a b low also among =
          elim (Contains-push_cases pairs (u, v) (a, b) among) [
            | inr here ↦ set_here a b here
            | inl before ↦
                elim (cases_eq (word_of_pair a b) (word_of_pair u v)) [
                  | inl word ↦
                      elim (cases_eq (b % 64) (v % 64)) [
                        | inl place ↦ set_here a b (same_pair a b low also word place)
                        | inr other ↦ kept a b (λ w p. other p) ∙ (known.each a b low also).1 before
                      ]
                  | inr other ↦ kept a b (λ w p. other w) ∙ (known.each a b low also).1 before
                ]
          ]
