-- The fields of small cases.
use Rattle.std.proofs.Common.{◌≡◌, ◌⊎◌, inl, inr, ℕ, zero, suc, ◌<◌, Bool, true, false, Contains, List, [], ◌∷◌, None, Option, Some, length, slice_get, take, refl, ◌∙◌, ap, subst, arith}
use Rattle.list_facts.specs.Laws.Members.{Contains-cons, Contains-here, Contains-one, Contains-there}
use Rattle.part_machines.specs.Cells.{IsCellField, Shows}
use Rattle.part_machines.specs.Fields.{IsFieldOf, LeavesAt}
use Rattle.part_machines.specs.Worked.{counter_words, dash, first_blocks, first_reads, one_at, second_blocks, second_reads, shown, word_1, word_4, word_5, zero_at}

-- ---- words of three bits
-- a character is the bit where a shown word leaves, and a dash where none does
abbrev Suits : (Shown : List Bool → Type 0) → List Bool → ℕ → Bool → Option Bool → Type 0
Suits Shown v k b character = (LeavesAt Shown v k × (character ≡ Some b)) ⊎ ((LeavesAt Shown v k → ⊥) × (character ≡ None))

literal_of : (Shown : List Bool → Type 0) (v : List Bool) (k : ℕ) (b c : Bool) (character : Option Bool) → Suits Shown v k b character → b ≡ c → LeavesAt Shown v k → character ≡ Some c
literal_of Shown v k b c character suits same leaves =
    elim suits [
      | inl own ↦ own.1 ∙ ap (λ (d : Bool). Some d) same
      | inr none ↦ absurd (none.0 leaves)
    ]

dash_of : (Shown : List Bool → Type 0) (v : List Bool) (k : ℕ) (b : Bool) (character : Option Bool) → Suits Shown v k b character → (LeavesAt Shown v k → ⊥) → character ≡ None
dash_of Shown v k b character suits stays =
    elim suits [
      | inl own ↦ absurd (stays own.0)
      | inr none ↦ none.1
    ]

module _ (Shown : List Bool → Type 0) (a b c : Bool) (x y z : Option Bool) (first : Suits Shown (a ∷ b ∷ c ∷ []) 0 a x) (second : Suits Shown (a ∷ b ∷ c ∷ []) 1 b y) (third : Suits Shown (a ∷ b ∷ c ∷ []) 2 c z) where
  abbrev word : List Bool
  word = a ∷ b ∷ c ∷ []

  abbrev field : List (Option Bool)
  field = x ∷ y ∷ z ∷ []

  literal_at : (k : ℕ) (d : Bool) → slice_get word k ≡ Some d → LeavesAt Shown word k → slice_get field k ≡ Some (Some d)
  literal_at zero d is leaves = ap (λ (o : Option Bool). Some o) (literal_of Shown word 0 a d x first (cc) leaves)
  literal_at (suc zero) d is leaves = ap (λ (o : Option Bool). Some o) (literal_of Shown word 1 b d y second (cc) leaves)
  literal_at (suc (suc zero)) d is leaves = ap (λ (o : Option Bool). Some o) (literal_of Shown word 2 c d z third (cc) leaves)
  literal_at (suc (suc (suc k))) d is leaves = absurd (cc)

  dash_at : (k : ℕ) → k < length word → (LeavesAt Shown word k → ⊥) → slice_get field k ≡ Some None
  dash_at zero below stays = ap (λ (o : Option Bool). Some o) (dash_of Shown word 0 a x first stays)
  dash_at (suc zero) below stays = ap (λ (o : Option Bool). Some o) (dash_of Shown word 1 b y second stays)
  dash_at (suc (suc zero)) below stays = ap (λ (o : Option Bool). Some o) (dash_of Shown word 2 c z third stays)
  dash_at (suc (suc (suc k))) below stays = absurd (omega (arith, below))

  field_of_three : IsFieldOf Shown word field
  field_of_three = record { size = refl; literal = literal_at; dash = dash_at }

-- the three words that are shown
has_1 : Contains shown word_1
has_1 = Contains-here word_1 (word_4 ∷ word_5 ∷ [])

has_4 : Contains shown word_4
has_4 = Contains-there word_1 word_4 (word_4 ∷ word_5 ∷ []) (Contains-here word_4 (word_5 ∷ []))

has_5 : Contains shown word_5
has_5 = Contains-there word_1 word_5 (word_4 ∷ word_5 ∷ []) (Contains-there word_4 word_5 (word_5 ∷ []) (Contains-here word_5 []))

each_shown : (P : List Bool → Type 0) → P word_1 → P word_4 → P word_5 → (w : List Bool) → Contains shown w → P w
each_shown P one four five w there =
    elim (Contains-cons word_1 w (word_4 ∷ word_5 ∷ []) there) [
      | inl first ↦ subst P first one
      | inr later ↦
          elim (Contains-cons word_4 w (word_5 ∷ []) later) [
            | inl second ↦ subst P second four
            | inr last ↦ subst P (Contains-one word_5 w last) five
          ]
    ]

-- where each shown word with the same front has the same bit, none leaves
stays_at : (v : List Bool) (k : ℕ) → ((w : List Bool) → Contains shown w → take k w ≡ take k v → slice_get w k ≡ slice_get v k) → LeavesAt (Contains shown) v k → ⊥
stays_at v k same leaves = leaves.differs (same leaves.other leaves.shown leaves.before)

pub first : IsFieldOf (Contains shown) word_1 (zero_at ∷ dash ∷ dash ∷ [])
first =
    field_of_three (Contains shown) false false true zero_at dash dash
    (inl (record { other = word_4; shown = has_4; before = refl; differs = λ same. absurd (cc) }, refl))
    (inr (stays_at word_1 1 (each_shown (λ (w : List Bool). take 1 w ≡ take 1 word_1 → slice_get w 1 ≡ slice_get word_1 1) (λ same. refl) (λ same. refl) (λ same. refl)), refl))
    (inr (stays_at word_1 2 (each_shown (λ (w : List Bool). take 2 w ≡ take 2 word_1 → slice_get w 2 ≡ slice_get word_1 2) (λ same. refl) (λ same. absurd (cc)) (λ same. refl)), refl))

pub second : IsFieldOf (Contains shown) word_4 (one_at ∷ dash ∷ zero_at ∷ [])
second =
    field_of_three (Contains shown) true false false one_at dash zero_at
    (inl (record { other = word_1; shown = has_1; before = refl; differs = λ same. absurd (cc) }, refl))
    (inr (stays_at word_4 1 (each_shown (λ (w : List Bool). take 1 w ≡ take 1 word_4 → slice_get w 1 ≡ slice_get word_4 1) (λ same. refl) (λ same. refl) (λ same. refl)), refl))
    (inl (record { other = word_5; shown = has_5; before = refl; differs = λ same. absurd (cc) }, refl))

pub third : IsFieldOf (Contains shown) word_5 (one_at ∷ dash ∷ one_at ∷ [])
third =
    field_of_three (Contains shown) true false true one_at dash one_at
    (inl (record { other = word_1; shown = has_1; before = refl; differs = λ same. absurd (cc) }, refl))
    (inr (stays_at word_5 1 (each_shown (λ (w : List Bool). take 1 w ≡ take 1 word_5 → slice_get w 1 ≡ slice_get word_5 1) (λ same. refl) (λ same. refl) (λ same. refl)), refl))
    (inl (record { other = word_4; shown = has_4; before = refl; differs = λ same. absurd (cc) }, refl))

-- the last place of 101 has its bit, since 100 leaves there
pub not_from_the_end : IsFieldOf (Contains shown) word_5 (one_at ∷ dash ∷ dash ∷ []) → ⊥
not_from_the_end is =
    let leaves : LeavesAt (Contains shown) word_5 2 = record { other = word_4; shown = has_4; before = refl; differs = λ same. absurd (cc) } in
    let wrong : slice_get (one_at ∷ dash ∷ dash ∷ []) 2 ≡ Some (Some true) = is.literal 2 true refl leaves in
    absurd (cc)

-- ---- one bit
literal_of_one : (Shown : List Bool → Type 0) (a : Bool) (k : ℕ) (b : Bool) → slice_get (a ∷ []) k ≡ Some b → slice_get (Some a ∷ []) k ≡ Some (Some b)
literal_of_one Shown a zero b is = let same : a ≡ b = cc in ap (λ (c : Bool). Some (Some c)) same
literal_of_one Shown a (suc k) b is = absurd (cc)

dash_of_one : (Shown : List Bool → Type 0) (a : Bool) → LeavesAt Shown (a ∷ []) 0 → (k : ℕ) → k < 1 → (LeavesAt Shown (a ∷ []) k → ⊥) → slice_get (Some a ∷ []) k ≡ Some None
dash_of_one Shown a leaves zero below stays = absurd (stays leaves)
dash_of_one Shown a leaves (suc k) below stays = absurd (omega (arith, below))

-- where another word of one bit is shown, the field is the bit
field_of_one : (Shown : List Bool → Type 0) (a : Bool) → LeavesAt Shown (a ∷ []) 0 → IsFieldOf Shown (a ∷ []) (Some a ∷ [])
field_of_one Shown a leaves =
    record { size = refl; literal = λ k b is left. literal_of_one Shown a k b is; dash = dash_of_one Shown a leaves }

pub first_field : IsCellField first_blocks counter_words first_reads 0 (zero_at ∷ [])
first_field =
    field_of_one (Shows first_blocks counter_words first_reads 0) false
    (record { other = true ∷ []; shown = record { state = 2; together = (omega arith, omega arith, refl); has = refl }; before = refl; differs = λ same. absurd (cc) })

pub other_field : IsCellField first_blocks counter_words first_reads 2 (one_at ∷ [])
other_field =
    field_of_one (Shows first_blocks counter_words first_reads 2) true
    (record { other = false ∷ []; shown = record { state = 1; together = (omega arith, omega arith, refl); has = refl }; before = refl; differs = λ same. absurd (cc) })

pub zero_shown : IsCellField second_blocks counter_words second_reads 0 (zero_at ∷ [])
zero_shown =
    field_of_one (Shows second_blocks counter_words second_reads 0) false
    (record { other = true ∷ []; shown = record { state = 3; together = (omega arith, omega arith, refl); has = refl }; before = refl; differs = λ same. absurd (cc) })

pub one_shown : IsCellField second_blocks counter_words second_reads 3 (one_at ∷ [])
one_shown =
    field_of_one (Shows second_blocks counter_words second_reads 3) true
    (record { other = false ∷ []; shown = record { state = 0; together = (omega arith, omega arith, refl); has = refl }; before = refl; differs = λ same. absurd (cc) })
