-- Fields of shown words share no symbol, and together hold every symbol.
use Rattle.std.proofs.Common.{◌≡◌, ◌⊎◌, inl, inr, ℕ, zero, suc, ◌<◌, ◌≤◌, Bool, true, false, List, [], ◌∷◌, None, Option, Some, length, slice_get, take, refl, sym, ◌∙◌, ap, subst, arith}
use Rattle.std.proofs.lemmas.Bool.{cases_lt}
use Rattle.std.proofs.lemmas.List.{take_all}
use Rattle.std.proofs.lemmas.Option.{slice_get_within}
use Rattle.std.specs.List.{AllZip}
use Rattle.cubes.specs.Field.{Allows}
use Rattle.list_facts.specs.Laws.Places.{item_at}
use Rattle.part_machines.specs.Fields.{HoldsValues, IsFieldOf, LeavesAt}

-- ---- equality is decided
same_bits : (a b : Bool) → (a ≡ b) ⊎ (a ≡ b → ⊥)
same_bits true true = inl refl
same_bits true false = inr (λ same. absurd (cc))
same_bits false true = inr (λ same. absurd (cc))
same_bits false false = inl refl

pub same_words : (v w : List Bool) → (v ≡ w) ⊎ (v ≡ w → ⊥)
same_words [] [] = inl refl
same_words [] (b ∷ w) = inr (λ same. absurd (cc))
same_words (a ∷ v) [] = inr (λ same. absurd (cc))
same_words (a ∷ v) (b ∷ w) =
    elim (same_bits a b) [
      | inl first ↦ elim (same_words v w) [
        | inl rest ↦ inl (cc)
        | inr other ↦ inr (λ same. other (cc))
      ]
      | inr other ↦ inr (λ same. other (cc))
    ]

pub same_places : (a b : Option Bool) → (a ≡ b) ⊎ (a ≡ b → ⊥)
same_places None None = inl refl
same_places None (Some b) = inr (λ same. absurd (cc))
same_places (Some a) None = inr (λ same. absurd (cc))
same_places (Some a) (Some b) =
    elim (same_bits a b) [
      | inl first ↦ inl (ap (λ (c : Bool). Some c) first)
      | inr other ↦ inr (λ same. other (cc))
    ]

-- ---- words with the same front
-- one place more
same_front_more : (v w : List Bool) (k : ℕ) → take k v ≡ take k w → slice_get v k ≡ slice_get w k → take (suc k) v ≡ take (suc k) w
same_front_more [] [] k before at = refl
same_front_more [] (b ∷ w) zero before at = absurd (cc)
same_front_more [] (b ∷ w) (suc k) before at = absurd (cc)
same_front_more (a ∷ v) [] zero before at = absurd (cc)
same_front_more (a ∷ v) [] (suc k) before at = absurd (cc)
same_front_more (a ∷ v) (b ∷ w) zero before at = let same : a ≡ b = cc in ap (λ (c : Bool). c ∷ []) same
same_front_more (a ∷ v) (b ∷ w) (suc k) before at =
    let first : a ≡ b = cc in
    let rest : take (suc k) v ≡ take (suc k) w = same_front_more v w k (cc) at in
    cc

-- a shorter front
pub same_front_less : (v w : List Bool) (j k : ℕ) → j ≤ k → take k v ≡ take k w → take j v ≡ take j w
same_front_less v w zero k low same = refl
same_front_less v w (suc j) zero low same = absurd (omega arith)
same_front_less [] [] (suc j) (suc k) low same = refl
same_front_less [] (b ∷ w) (suc j) (suc k) low same = absurd (cc)
same_front_less (a ∷ v) [] (suc j) (suc k) low same = absurd (cc)
same_front_less (a ∷ v) (b ∷ w) (suc j) (suc k) low same =
    let first : a ≡ b = cc in
    let rest : take j v ≡ take j w = same_front_less v w j k (omega arith) (cc) in
    cc

-- a place in the front
pub same_in_front : (v w : List Bool) (j k : ℕ) → j < k → take k v ≡ take k w → slice_get v j ≡ slice_get w j
same_in_front v w j zero low same = absurd (omega arith)
same_in_front [] [] j (suc k) low same = refl
same_in_front [] (b ∷ w) j (suc k) low same = absurd (cc)
same_in_front (a ∷ v) [] j (suc k) low same = absurd (cc)
same_in_front (a ∷ v) (b ∷ w) zero (suc k) low same = let first : a ≡ b = cc in ap (λ (c : Bool). Some c) first
same_in_front (a ∷ v) (b ∷ w) (suc j) (suc k) low same = same_in_front v w j k (omega arith) (cc)

-- two bits that are not a third one are equal
other_bit : (a b c : Bool) → (a ≡ c → ⊥) → (b ≡ c → ⊥) → a ≡ b
other_bit true true c first second = refl
other_bit false false c first second = refl
other_bit true false true first second = absurd (first refl)
other_bit true false false first second = absurd (second refl)
other_bit false true true first second = absurd (second refl)
other_bit false true false first second = absurd (first refl)

-- ---- fields that hold values
pub held_at : (field : List (Option Bool)) (values : List Bool) (k : ℕ) (b : Bool) → AllZip Allows field values → slice_get field k ≡ Some (Some b) → slice_get values k ≡ Some b
held_at [] values k b held is = absurd (cc)
held_at (c ∷ field) [] k b held is = absurd held
held_at (c ∷ field) (value ∷ values) zero b held is =
    let same : c ≡ Some b = cc in
    let allowed : Allows (Some b) value = subst (λ (d : Option Bool). Allows d value) same held.0 in
    ap (λ (d : Bool). Some d) allowed
held_at (c ∷ field) (value ∷ values) (suc k) b held is = held_at field values k b held.1 is

pub held_from : (field : List (Option Bool)) (values : List Bool) → length field ≡ length values
    → ((k : ℕ) (b : Bool) → slice_get field k ≡ Some (Some b) → slice_get values k ≡ Some b) → AllZip Allows field values
held_from [] [] size each = tt
held_from [] (value ∷ values) size each = absurd (omega arith)
held_from (c ∷ field) [] size each = absurd (omega arith)
held_from (None ∷ field) (value ∷ values) size each = (tt, held_from field values (omega arith) (λ k b is. each (suc k) b is))
held_from (Some b ∷ field) (value ∷ values) size each =
    let first : Some value ≡ Some b = each zero b refl in
    (cc, held_from field values (omega arith) (λ k b is. each (suc k) b is))

-- ---- any words of one length
module _ (Shown : List Bool → Type 0) (size : ℕ) (sizes : (v : List Bool) → Shown v → length v ≡ size) where
  -- fields of two shown words hold the same values only if the words are equal
  module _ (v w values : List Bool) (one other : List (Option Bool)) (in_v : Shown v) (in_w : Shown w) (first : IsFieldOf Shown v one) (second : IsFieldOf Shown w other) (held : HoldsValues one values) (also : HoldsValues other values) where
    differ_nowhere : (k : ℕ) → k < size → take k v ≡ take k w → (slice_get v k ≡ slice_get w k → ⊥) → ⊥
    differ_nowhere k below before apart =
        let a = item_at v k (omega (arith, below, sizes v in_v)) in
        let b = item_at w k (omega (arith, below, sizes w in_w)) in
        let leaves : LeavesAt Shown v k = record { other = w; shown = in_w; before = sym before; differs = λ same. apart (sym same) } in
        let left : LeavesAt Shown w k = record { other = v; shown = in_v; before = before; differs = apart } in
        let at_v : slice_get values k ≡ Some a.0 = held_at one values k a.0 held (first.literal k a.0 a.1 leaves) in
        let at_w : slice_get values k ≡ Some b.0 = held_at other values k b.0 also (second.literal k b.0 b.1 left) in
        apart (a.1 ∙ (sym at_v ∙ (at_w ∙ sym b.1)))

    same_up_to : (k : ℕ) → k ≤ size → take k v ≡ take k w
    same_up_to zero low = refl
    same_up_to (suc k) low =
        let before : take k v ≡ take k w = same_up_to k (omega arith) in
        elim (same_places (slice_get v k) (slice_get w k)) [
          | inl at ↦ same_front_more v w k before at
          | inr apart ↦ absurd (differ_nowhere k (omega arith) before apart)
        ]

    pub fields_apart : v ≡ w
    fields_apart =
        let long : length v ≤ size = omega (arith, sizes v in_v) in
        let also_long : length w ≤ size = omega (arith, sizes w in_w) in
        sym (take_all size v long) ∙ (same_up_to size (omega arith) ∙ take_all size w also_long)

  -- values are held by the field of some shown word
  module _ (decide : (v : List Bool) (k : ℕ) → LeavesAt Shown v k ⊎ (LeavesAt Shown v k → ⊥)) (values : List Bool) (long : length values ≡ size) where
    -- the word has the values at each of the first places at which a shown word leaves it
    record Fits (v : List Bool) (k : ℕ) : Type 0 where
      shown : Shown v
      agrees : (j : ℕ) → j < k → LeavesAt Shown v j → slice_get v j ≡ slice_get values j

    -- the word that leaves another one, which fits before the place, and has the value there
    other_fits : (v w : List Bool) (k : ℕ) → Fits v k → Shown w → take k w ≡ take k v → slice_get w k ≡ slice_get values k → Fits w (suc k)
    other_fits v w k fits in_w before at =
        record {
          shown = in_w;
          agrees = λ j low leaves.
              elim (cases_lt j k) [
                | inl below ↦
                    let same : slice_get w j ≡ slice_get v j = same_in_front w v j k below before in
                    let front : take j w ≡ take j v = same_front_less w v j k (omega arith) before in
                    let moved : LeavesAt Shown v j = record { other = leaves.other; shown = leaves.shown; before = leaves.before ∙ front; differs = λ e. leaves.differs (e ∙ sym same) } in
                    same ∙ fits.agrees j below moved
                | inr above ↦
                    let here : j ≡ k = omega arith in
                    subst (λ (i : ℕ). slice_get w i ≡ slice_get values i) (sym here) at
              ];
        }

    fits_more : (v : List Bool) (k : ℕ) → k < size → Fits v k → (w : List Bool) × Fits w (suc k)
    fits_more v k low fits =
        elim (same_places (slice_get v k) (slice_get values k)) [
          | inl at ↦ (v, other_fits v v k fits fits.shown refl at)
          | inr apart ↦
              elim (decide v k) [
                | inl leaves ↦
                    let a = item_at v k (omega (arith, low, sizes v fits.shown)) in
                    let b = item_at leaves.other k (omega (arith, low, sizes leaves.other leaves.shown)) in
                    let c = item_at values k (omega (arith, low, long)) in
                    let same : b.0 ≡ c.0 =
                    other_bit b.0 c.0 a.0
                    (λ e. leaves.differs (b.1 ∙ (ap (λ (d : Bool). Some d) e ∙ sym a.1)))
                    (λ e. apart (a.1 ∙ (ap (λ (d : Bool). Some d) (sym e) ∙ sym c.1))) in
                    (leaves.other, other_fits v leaves.other k fits leaves.shown leaves.before (b.1 ∙ (ap (λ (d : Bool). Some d) same ∙ sym c.1)))
                | inr stays ↦ (
                  v,
                  record {
                    shown = fits.shown;
                    agrees = λ j below leaves.
                        elim (cases_lt j k) [
                          | inl before ↦ fits.agrees j before leaves
                          | inr above ↦
                              let here : j ≡ k = omega arith in
                              absurd (stays (subst (λ (i : ℕ). LeavesAt Shown v i) here leaves))
                        ];
                  },
                )
              ]
        ]

    fits_up_to : (v : List Bool) → Shown v → (k : ℕ) → k ≤ size → (w : List Bool) × Fits w k
    fits_up_to v in_v zero low = (v, record { shown = in_v; agrees = λ j below leaves. absurd (omega arith) })
    fits_up_to v in_v (suc k) low =
        let before = fits_up_to v in_v k (omega arith) in
        fits_more before.0 k (omega arith) before.1

    -- the field of a word that fits everywhere
    field_holds : (v : List Bool) (field : List (Option Bool)) → Fits v size → IsFieldOf Shown v field → HoldsValues field values
    field_holds v field fits is =
        held_from field values (omega (arith, is.size, sizes v fits.shown, long))
        (λ k b has.
        let below : k < size = omega (arith, slice_get_within field k (Some b) has, is.size, sizes v fits.shown) in
        elim (decide v k) [
          | inl leaves ↦
              let a = item_at v k (omega (arith, below, sizes v fits.shown)) in
              let at : slice_get field k ≡ Some (Some a.0) = is.literal k a.0 a.1 leaves in
              let same : a.0 ≡ b = cc in
              sym (fits.agrees k below leaves) ∙ (a.1 ∙ ap (λ (d : Bool). Some d) same)
          | inr stays ↦
              let at : slice_get field k ≡ Some None = is.dash k (omega (arith, below, sizes v fits.shown)) stays in
              absurd (cc)
        ])

    pub fields_hold : (first : List Bool) → Shown first
        → (v : List Bool) × Shown v × ((field : List (Option Bool)) → IsFieldOf Shown v field → HoldsValues field values)
    fields_hold first in_first =
        let found = fits_up_to first in_first size (omega arith) in
        (found.0, found.1.shown, λ field is. field_holds found.0 field found.1 is)

-- ---- the same words shown
pub leaves_too : (Shown Other : List Bool → Type 0) → ((w : List Bool) → Shown w → Other w) → (v : List Bool) (k : ℕ) → LeavesAt Shown v k → LeavesAt Other v k
leaves_too Shown Other also v k leaves = record { other = leaves.other; shown = also leaves.other leaves.shown; before = leaves.before; differs = leaves.differs }

pub field_too : (Shown Other : List Bool → Type 0) → ((w : List Bool) → Shown w → Other w) → ((w : List Bool) → Other w → Shown w)
    → (v : List Bool) (field : List (Option Bool)) → IsFieldOf Shown v field → IsFieldOf Other v field
field_too Shown Other also back v field is =
    record {
      size = is.size;
      literal = λ k b at leaves. is.literal k b at (leaves_too Other Shown back v k leaves);
      dash = λ k below stays. is.dash k below (λ leaves. stays (leaves_too Shown Other also v k leaves));
    }
