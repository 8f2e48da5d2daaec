use Rattle.std.proofs.Common.{◌≡◌, ◌≢◌, ℕ, ◌%◌, ◌<◌, ◌^◌, ◌*◌, ◌∙◌, ◌↔◌, IsTrue, Bool, true, false, if◌then◌else◌, min, max, bit_and, bit_or, bit_xor, ap, sym, refl, ⊎_elim, zero-mul, subst, arith}
use Rattle.std.specs.Int.{bit_at, bit_not, w128}
use Rattle.std.proofs.lemmas.Nat.Bits.{bit_at-lt, bit_at_and, bit_at_or, bit_at_clear_same, bit_at_clear_other, bit_at_set_same, bit_at_set_other, and_pow, same_from_bits}
use Rattle.std.proofs.lemmas.Nat.{one_shl, or_disjoint, or_lt, pow_below, pow_pos}
use Rattle.std.proofs.lemmas.Bool.{cases_eq, and_parts, eq-eqb}
use Rattle.std.specs.Cmp.Derive.{both_true}
use Rattle.cover_terms.specs.declared.term.Term.{Term}
use Rattle.cover_terms.specs.Term.{Holds, HoldsWithDash, LooksAt}
use Rattle.cover_terms.specs.Pair.{Includes, IsColumnHalf, IsLooser, IsIntersection, ShareValue, agree, refines}
use Rattle.cover_terms.specs.Laws.Bits.{zero_from_test, test_from_zero, bits_of_zero, zero_from_bits, bit_at_differ, same_where_both, none_differ, common_is, equal_from_test, zero_or_one, zero_is_not_one, both_one, min_with_one, below_width}

-- the value is inside care
pub dash_is_zero : (t : Term) (i : ℕ) → bit_at t.care i ≡ 0 → bit_at t.value i ≡ 0
dash_is_zero t i h = zero (bit_at t.value i) (bit_at t.care i) (sym (ap (λ n. bit_at n i) t.inside) ∙ bit_at_and t.value t.care i) h
  where
    zero : (v c : ℕ) → v ≡ min v c → c ≡ 0 → v ≡ 0
    zero v c e f = omega arith

-- terms that pass the test agree wherever both look
pub agree_at : (a b : Term) → agree a b ≡ true → (i : ℕ) → LooksAt a i → LooksAt b i → bit_at a.value i ≡ bit_at b.value i
agree_at a b h i l m =
    same_where_both _ _ (bit_at a.care i) (bit_at b.care i) (bit_at-lt a.value i) (bit_at-lt b.value i)
    (sym (bit_at_differ a.value b.value a.care b.care i) ∙ bits_of_zero _ (zero_from_test _ h) i) l m

-- terms that agree wherever both look pass the test
pub agree_from_bits : (a b : Term) → ((i : ℕ) → LooksAt a i → LooksAt b i → bit_at a.value i ≡ bit_at b.value i) → agree a b ≡ true
agree_from_bits a b h =
    test_from_zero _ (zero_from_bits _ (λ i.
    bit_at_differ a.value b.value a.care b.care i
    ∙ none_differ _ _ (bit_at a.care i) (bit_at b.care i) (bit_at-lt a.value i) (bit_at-lt b.value i) (bit_at-lt a.care i) (bit_at-lt b.care i) (h i)))

-- as terms that share a value do
pub agree_from_shared : (a b : Term) (x : ℕ) → Holds a x → Holds b x → agree a b ≡ true
unfolding Holds
agree_from_shared a b x p q = agree_from_bits a b (λ i l m. sym (p i l) ∙ q i m)

-- a term holds its own value
pub holds_own : (t : Term) → Holds t t.value
unfolding Holds
holds_own t i l = refl

-- where a term looks, its value is that which care was laid over
kept : (t : Term) (v : ℕ) → t.value ≡ bit_and v t.care → (i : ℕ) → LooksAt t i → bit_at t.value i ≡ bit_at v i
kept t v e i l = ap (λ n. bit_at n i) e ∙ (bit_at_and v t.care i ∙ min_with_one (bit_at v i) (bit_at t.care i) (bit_at-lt v i) l)

-- both is what two terms have in common
pub record IsCommon (a b both : Term) : Type 0 where
  pub care : both.care ≡ bit_and (bit_and a.care b.care) (bit_not w128 (bit_xor a.value b.value))
  pub value : both.value ≡ bit_and a.value both.care
  pub left_fits : a.value < 2 ^ 128
  pub right_fits : b.value < 2 ^ 128
  pub care_fits : a.care < 2 ^ 128

common_at : (a b both : Term) → IsCommon a b both → (i : ℕ) → LooksAt both i → LooksAt a i × LooksAt b i × (bit_at a.value i ≡ bit_at b.value i)
common_at a b both e i l =
    common_is a.value b.value a.care b.care i e.left_fits e.right_fits e.care_fits (sym (ap (λ n. bit_at n i) e.care) ∙ l)

pub joined_left : (a b both : Term) → IsCommon a b both → Includes both a
unfolding Holds
joined_left a b both e x p i l = p i (common_at a b both e i l).0 ∙ sym (kept both a.value e.value i l)

pub joined_right : (a b both : Term) → IsCommon a b both → Includes both b
unfolding Holds
joined_right a b both e x p i l =
    let k = common_at a b both e i l in
    p i k.1 ∙ (sym k.2 ∙ sym (kept both a.value e.value i l))

-- with a dash at column k, of a term of 128 columns
pub record IsDashed (t : Term) (k : ℕ) (wide : Term) : Type 0 where
  pub column : k < 128
  pub fits : t.care < 2 ^ 128
  pub care : wide.care ≡ bit_and t.care (bit_not w128 (1 * 2 ^ k % 2 ^ 128))
  pub value : wide.value ≡ bit_and t.value (bit_not w128 (1 * 2 ^ k % 2 ^ 128))

-- it looks where the term did, but for column k, and for the same bits
dashed_at : (t : Term) (k : ℕ) (wide : Term) → IsDashed t k wide → (i : ℕ) → LooksAt wide i → (i ≢ k) × LooksAt t i × (bit_at wide.value i ≡ bit_at t.value i)
dashed_at t k wide d i l =
    let keep = bit_not w128 (1 * 2 ^ k % 2 ^ 128) in
    let b = both_one (bit_at t.care i) (bit_at keep i) (bit_at-lt t.care i) (bit_at-lt keep i) (sym (ap (λ n. bit_at n i) d.care ∙ bit_at_and t.care keep i) ∙ l) in (
      λ same. zero_is_not_one _ (ap (λ n. bit_at n i) d.care ∙ (ap (λ j. bit_at (bit_and t.care keep) j) same ∙ bit_at_clear_same w128 t.care k d.column)) l,
      b.0,
      ap (λ n. bit_at n i) d.value ∙ (bit_at_and t.value keep i ∙ min_with_one (bit_at t.value i) (bit_at keep i) (bit_at-lt t.value i) b.1),
    )

pub dashed_looser : (t : Term) (k : ℕ) (wide : Term) → IsDashed t k wide → IsLooser wide t
dashed_looser t k wide d = record { literals = λ i l. ((dashed_at t k wide d i l).1, (dashed_at t k wide d i l).2) }

-- and has a dash at column k
pub dashed_column : (care k : ℕ) → k < 128 → bit_at (bit_and care (bit_not w128 (1 * 2 ^ k % 2 ^ 128))) k ≡ 1 → ⊥
dashed_column care k h l = zero_is_not_one _ (bit_at_clear_same w128 care k h) l

-- a looser term holds what the term holds, and with a dash as well
pub looser_holds : (wide narrow : Term) → IsLooser wide narrow → Includes wide narrow
unfolding Holds
looser_holds wide narrow h x p i l = let k = h.literals i l in p i k.0 ∙ sym k.1

pub looser_with_dash : (wide narrow : Term) → IsLooser wide narrow → (dash x : ℕ) → HoldsWithDash narrow dash x → HoldsWithDash wide dash x
unfolding HoldsWithDash
looser_with_dash wide narrow h dash x p i ne l = let k = h.literals i l in p i ne k.0 ∙ sym k.1

-- it holds what the term holds apart from column k
pub dashed_holds : (t : Term) (k : ℕ) (wide : Term) → IsDashed t k wide → (x : ℕ) → Holds wide x ↔ HoldsWithDash t k x
unfolding Holds HoldsWithDash
dashed_holds t k wide d x = (
  λ p i ne l.
      let other = ap (λ n. bit_at n i) d.care ∙ bit_at_clear_other w128 t.care k d.column i (below_width 128 t.care i d.fits l) ne in
      let looks : LooksAt wide i = other ∙ l in
      p i looks ∙ (dashed_at t k wide d i looks).2,
  λ p i l.
      let at = dashed_at t k wide d i l in
      p i at.0 at.1 ∙ sym at.2,
)

-- the numbers of two terms laid over one another, which agree wherever both look
pub record IsOverlaid (a b both : Term) : Type 0 where
  pub agreed : agree a b ≡ true
  pub care : both.care ≡ bit_or a.care b.care
  pub value : both.value ≡ bit_or a.value b.value

-- the bit of both values is that of each term that looks there
overlaid_left : (va vb cb : ℕ) → cb < 2 → (cb ≡ 0 → vb ≡ 0) → (cb ≡ 1 → va ≡ vb) → max va vb ≡ va
overlaid_left va vb cb p q r = ⊎_elim (λ c0. let e = q c0 in omega arith) (λ c1. let e = r c1 in omega arith) (zero_or_one cb p)

overlaid_right : (va vb ca : ℕ) → ca < 2 → (ca ≡ 0 → va ≡ 0) → (ca ≡ 1 → va ≡ vb) → max va vb ≡ vb
overlaid_right va vb ca p q r = ⊎_elim (λ c0. let e = q c0 in omega arith) (λ c1. let e = r c1 in omega arith) (zero_or_one ca p)

or_at_left : (a b : Term) → agree a b ≡ true → (i : ℕ) → LooksAt a i → bit_at (bit_or a.value b.value) i ≡ bit_at a.value i
or_at_left a b h i l = bit_at_or a.value b.value i ∙ overlaid_left _ _ (bit_at b.care i) (bit_at-lt b.care i) (dash_is_zero b i) (agree_at a b h i l)

or_at_right : (a b : Term) → agree a b ≡ true → (i : ℕ) → LooksAt b i → bit_at (bit_or a.value b.value) i ≡ bit_at b.value i
or_at_right a b h i l = bit_at_or a.value b.value i ∙ overlaid_right _ _ (bit_at a.care i) (bit_at-lt a.care i) (dash_is_zero a i) (λ m. agree_at a b h i m l)

-- terms that pass the test share the value with the bits of both
pub shared_from_agree : (a b : Term) → agree a b ≡ true → (x : ℕ) × Holds a x × Holds b x
unfolding Holds
shared_from_agree a b h = (bit_or a.value b.value, (λ i l. or_at_left a b h i l), (λ i l. or_at_right a b h i l))

overlaid_at : (a b both : Term) → IsOverlaid a b both → (i : ℕ) → ((LooksAt a i → bit_at both.value i ≡ bit_at a.value i) × (LooksAt b i → bit_at both.value i ≡ bit_at b.value i))
overlaid_at a b both o i =
    let e = ap (λ n. bit_at n i) o.value in
    (λ l. e ∙ or_at_left a b o.agreed i l, λ l. e ∙ or_at_right a b o.agreed i l)

overlaid_looks : (a b both : Term) → IsOverlaid a b both → (i : ℕ) → bit_at both.care i ≡ max (bit_at a.care i) (bit_at b.care i)
overlaid_looks a b both o i = ap (λ n. bit_at n i) o.care ∙ bit_at_or a.care b.care i

-- it holds what both hold
pub overlaid_holds : (a b both : Term) → IsOverlaid a b both → IsIntersection a b both
unfolding Holds
overlaid_holds a b both o x = (
  λ p. (
    λ i l. p i (overlaid_looks a b both o i ∙ one_l _ _ (bit_at-lt b.care i) l) ∙ (overlaid_at a b both o i).0 l,
    λ i l. p i (overlaid_looks a b both o i ∙ one_r _ _ (bit_at-lt a.care i) l) ∙ (overlaid_at a b both o i).1 l,
  ),
  λ p i l.
      let at = overlaid_at a b both o i in
      ⊎_elim (λ c0. p.1 i (rest _ _ c0 (sym (overlaid_looks a b both o i) ∙ l)) ∙ sym (at.1 (rest _ _ c0 (sym (overlaid_looks a b both o i) ∙ l))))
      (λ c1. p.0 i c1 ∙ sym (at.0 c1)) (zero_or_one (bit_at a.care i) (bit_at-lt a.care i)),
)
  where
    one_l : (a b : ℕ) → b < 2 → a ≡ 1 → max a b ≡ 1
    one_l a b p q = omega arith

    one_r : (a b : ℕ) → a < 2 → b ≡ 1 → max a b ≡ 1
    one_r a b p q = omega arith

    rest : (a b : ℕ) → a ≡ 0 → max a b ≡ 1 → b ≡ 1
    rest a b p q = omega arith

-- the numbers laid over one another keep the value inside care
pub overlaid_inside : (a b : Term) → bit_and (bit_or a.value b.value) (bit_or a.care b.care) ≡ bit_or a.value b.value
overlaid_inside a b = same_from_bits _ _ (λ i.
    let m = bit_at_or a.value b.value i in
    bit_at_and (bit_or a.value b.value) (bit_or a.care b.care) i
    ∙ (ap (λ n. min n (bit_at (bit_or a.care b.care) i)) m
    ∙ (ap (λ n. min (max (bit_at a.value i) (bit_at b.value i)) n) (bit_at_or a.care b.care i)
    ∙ (least _ _ _ _ (bit_at-lt a.value i) (bit_at-lt b.value i) (bit_at-lt a.care i) (bit_at-lt b.care i) (dash_is_zero a i) (dash_is_zero b i) ∙ sym m))))
  where
    least : (va vb ca cb : ℕ) → va < 2 → vb < 2 → ca < 2 → cb < 2 → (ca ≡ 0 → va ≡ 0) → (cb ≡ 0 → vb ≡ 0) → min (max va vb) (max ca cb) ≡ max va vb
    least va vb ca cb p q r s h k =
        ⊎_elim (λ c0. let e = h c0 in ⊎_elim (λ d0. let f = k d0 in omega arith) (λ d1. omega arith) (zero_or_one cb s)) (λ c1. omega arith) (zero_or_one ca r)

-- a bit that is set at a column at which the term has a dash
pub record IsSplit (t : Term) (k one : ℕ) (half : Term) : Type 0 where
  pub column : k < 128
  pub dash : bit_at t.care k ≡ 0
  pub care : half.care ≡ bit_or t.care (1 * 2 ^ k % 2 ^ 128)
  pub at_column : bit_at half.value k ≡ one
  pub elsewhere : (i : ℕ) → i ≢ k → bit_at half.value i ≡ bit_at t.value i

pub split_holds : (t : Term) (k one : ℕ) (half : Term) → IsSplit t k one half → IsColumnHalf t k one half
unfolding Holds
split_holds t k one half s x = (
  λ p. (
    λ i l.
        let ne : i ≢ k = (λ same. zero_is_not_one _ (ap (λ j. bit_at t.care j) same ∙ s.dash) l) in
        p i (ap (λ n. bit_at n i) s.care ∙ (bit_at_set_other w128 t.care k s.column i ne ∙ l)) ∙ s.elsewhere i ne,
    p k (ap (λ n. bit_at n k) s.care ∙ bit_at_set_same w128 t.care k s.column) ∙ s.at_column,
  ),
  λ p i l.
      ⊎_elim (λ same. ap (λ j. bit_at x j) same ∙ (p.1 ∙ (sym s.at_column ∙ ap (λ j. bit_at half.value j) (sym same))))
      (λ ne. p.0 i (sym (ap (λ n. bit_at n i) s.care ∙ bit_at_set_other w128 t.care k s.column i ne) ∙ l) ∙ sym (s.elsewhere i ne))
      (cases_eq i k),
)

-- the half whose value has the bit, or has it not
pub split_by : (t : Term) (k : ℕ) (one : Bool) (half : Term) → k < 128 → bit_at t.care k ≡ 0 → half.care ≡ bit_or t.care (1 * 2 ^ k % 2 ^ 128) → (one ≡ true → half.value ≡ bit_or t.value (1 * 2 ^ k % 2 ^ 128)) → (one ≡ false → half.value ≡ t.value) → IsColumnHalf t k (if one then 1 else 0) half
split_by t k true half h d care set stay =
    let value = set refl in
    split_holds t k 1 half (record {
      column = h;
      dash = d;
      care = care;
      at_column = ap (λ n. bit_at n k) value ∙ bit_at_set_same w128 t.value k h;
      elsewhere = λ i ne. ap (λ n. bit_at n i) value ∙ bit_at_set_other w128 t.value k h i ne;
    })
split_by t k false half h d care set stay =
    let value = stay refl in
    split_holds t k 0 half (record {
      column = h;
      dash = d;
      care = care;
      at_column = ap (λ n. bit_at n k) value ∙ dash_is_zero t k d;
      elsewhere = λ i ne. ap (λ n. bit_at n i) value;
    })

-- a term with a literal more has the greater care
pub split_care : (n k : ℕ) → k < 128 → bit_at n k ≡ 0 → n < bit_or n (1 * 2 ^ k % 2 ^ 128)
split_care n k h d =
    let one = one_shl k 128 h in
    let apart : bit_and n (1 * 2 ^ k % 2 ^ 128) ≡ 0 = ap (λ m. bit_and n m) one ∙ (and_pow n k ∙ (ap (λ b. b * 2 ^ k) d ∙ zero-mul (2 ^ k))) in
    let sum = or_disjoint n _ apart in
    let positive = pow_pos k in
    omega (arith, sum, one, positive)

-- and no column at or above a width that is above them all
pub split_fits : (n k w : ℕ) → k < 128 → k < w → n < 2 ^ w → bit_or n (1 * 2 ^ k % 2 ^ 128) < 2 ^ w
split_fits n k w h below fits = or_lt w n _ fits (subst (λ (m : ℕ). m < 2 ^ w) (sym (one_shl k 128 h)) (pow_below k w below))

-- more columns of care, with or without their bits in the value, keep the value inside
pub inside_with : (t : Term) (m : ℕ) → bit_and (bit_or t.value m) (bit_or t.care m) ≡ bit_or t.value m
inside_with t m = same_from_bits _ _ (λ i.
    let e = bit_at_or t.value m i in
    bit_at_and (bit_or t.value m) (bit_or t.care m) i
    ∙ (ap (λ n. min n (bit_at (bit_or t.care m) i)) e
    ∙ (ap (λ n. min (max (bit_at t.value i) (bit_at m i)) n) (bit_at_or t.care m i)
    ∙ (least _ _ (bit_at m i) (bit_at-lt t.value i) (bit_at-lt t.care i) (dash_is_zero t i) ∙ sym e))))
  where
    least : (v c m : ℕ) → v < 2 → c < 2 → (c ≡ 0 → v ≡ 0) → min (max v m) (max c m) ≡ max v m
    least v c m p q h = ⊎_elim (λ c0. let e = h c0 in omega arith) (λ c1. omega arith) (zero_or_one c q)

pub inside_more : (t : Term) (m : ℕ) → bit_and t.value (bit_or t.care m) ≡ t.value
inside_more t m = same_from_bits _ _ (λ i.
    bit_at_and t.value (bit_or t.care m) i
    ∙ (ap (λ n. min (bit_at t.value i) n) (bit_at_or t.care m i)
    ∙ least _ _ (bit_at m i) (bit_at-lt t.value i) (bit_at-lt t.care i) (dash_is_zero t i)))
  where
    least : (v c m : ℕ) → v < 2 → c < 2 → (c ≡ 0 → v ≡ 0) → min v (max c m) ≡ v
    least v c m p q h = ⊎_elim (λ c0. let e = h c0 in omega arith) (λ c1. omega arith) (zero_or_one c q)

-- a mask over both keeps the value inside care
pub and_both : (t : Term) (m : ℕ) → bit_and (bit_and t.value m) (bit_and t.care m) ≡ bit_and t.value m
and_both t m = same_from_bits _ _ (λ i.
    let e = bit_at_and t.value m i in
    bit_at_and (bit_and t.value m) (bit_and t.care m) i
    ∙ (ap (λ n. min n (bit_at (bit_and t.care m) i)) e
    ∙ (ap (λ n. min (min (bit_at t.value i) (bit_at m i)) n) (bit_at_and t.care m i)
    ∙ (least _ _ (bit_at m i) (bit_at-lt t.value i) (bit_at-lt t.care i) (dash_is_zero t i) ∙ sym e))))
  where
    least : (v c m : ℕ) → v < 2 → c < 2 → (c ≡ 0 → v ≡ 0) → min (min v m) (min c m) ≡ min v m
    least v c m p q h = ⊎_elim (λ c0. let e = h c0 in omega arith) (λ c1. omega arith) (zero_or_one c q)

-- a term that has the literals of another, among others, lies within it
pub includes_from : (wide narrow : Term) → bit_and wide.care narrow.care ≡ wide.care → bit_and narrow.value wide.care ≡ wide.value → Includes wide narrow
unfolding Holds
includes_from wide narrow care value x p i l =
    let looks = (both_one _ _ (bit_at-lt wide.care i) (bit_at-lt narrow.care i) (sym (bit_at_and wide.care narrow.care i) ∙ (ap (λ n. bit_at n i) care ∙ l))).1 in
    p i looks ∙ sym (sym (ap (λ n. bit_at n i) value) ∙ (bit_at_and narrow.value wide.care i ∙ min_with_one _ _ (bit_at-lt narrow.value i) l))

pub refines_includes : (wide narrow : Term) → refines wide narrow ≡ true → Includes wide narrow
refines_includes wide narrow h =
    let tests = and_parts _ _ h in
    includes_from wide narrow (equal_from_test _ _ tests.0) (equal_from_test _ _ tests.1)

-- where a term has the literals of another
pub refines_at : (wide narrow : Term) → refines wide narrow ≡ true → (i : ℕ) → LooksAt wide i → LooksAt narrow i × (bit_at narrow.value i ≡ bit_at wide.value i)
refines_at wide narrow h i l =
    let tests = and_parts _ _ h in (
      (both_one _ _ (bit_at-lt wide.care i) (bit_at-lt narrow.care i) (sym (bit_at_and wide.care narrow.care i) ∙ (ap (λ n. bit_at n i) (equal_from_test _ _ tests.0) ∙ l))).1,
      sym (sym (ap (λ n. bit_at n i) (equal_from_test _ _ tests.1)) ∙ (bit_at_and narrow.value wide.care i ∙ min_with_one _ _ (bit_at-lt narrow.value i) l)),
    )

pub refines_from : (wide narrow : Term) → ((i : ℕ) → LooksAt wide i → LooksAt narrow i × (bit_at narrow.value i ≡ bit_at wide.value i)) → refines wide narrow ≡ true
refines_from wide narrow h = both_true (eq-eqb _ _ (same_from_bits _ _ care)) (eq-eqb _ _ (same_from_bits _ _ value))
  where
    care : (i : ℕ) → bit_at (bit_and wide.care narrow.care) i ≡ bit_at wide.care i
    care i = bit_at_and wide.care narrow.care i ∙ ⊎_elim (λ none. zero_min _ _ none)
        (λ one. min_with_one (bit_at wide.care i) (bit_at narrow.care i) (bit_at-lt wide.care i) (h i one).0) (zero_or_one (bit_at wide.care i) (bit_at-lt wide.care i))
      where
        zero_min : (a b : ℕ) → a ≡ 0 → min a b ≡ a
        zero_min a b e = omega arith

    value : (i : ℕ) → bit_at (bit_and narrow.value wide.care) i ≡ bit_at wide.value i
    value i = bit_at_and narrow.value wide.care i ∙ ⊎_elim (λ none. zero_both _ _ _ none (dash_is_zero wide i none))
        (λ one. min_with_one (bit_at narrow.value i) (bit_at wide.care i) (bit_at-lt narrow.value i) one ∙ (h i one).1) (zero_or_one (bit_at wide.care i) (bit_at-lt wide.care i))
      where
        zero_both : (a b c : ℕ) → b ≡ 0 → c ≡ 0 → min a b ≡ c
        zero_both a b c e f = omega arith

-- the test says whether two terms share a value
pub agree_says : (a b : Term) → IsTrue (agree a b) ↔ ShareValue a b
agree_says a b = (shared_from_agree a b, λ s. agree_from_shared a b s.0 s.1 s.2)
