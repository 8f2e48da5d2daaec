use Rattle.std.proofs.Common.{◌≡◌, ◌↔◌, ℕ, ◌+◌, ◌<◌, ◌≤◌, ◌∙◌, Bool, true, false, not, if◌then◌else◌, max, min, bit_and, bit_or, List, [], ◌∷◌, ◌++◌, length, get_or, ap, sym, subst, ◌⊎◌, inl, inr, ⊎_elim, arith}
use Rattle.std.specs.Int.{bit_at}
use Rattle.std.specs.List.{All, Contains}
use Rattle.std.proofs.lemmas.Bool.{false≢true, cases_Bool, cases_eq}
use Rattle.std.proofs.lemmas.List.{get_or_default}
use Rattle.std.proofs.lemmas.List.Elements.{All-contains, All-nil, All-push, Contains-append_left, Contains-push}
use Rattle.std.proofs.lemmas.Nat.Bits.{bit_at-lt, bit_at_and, bit_at_or, bit_at-zero}
use Rattle.cover_logic.specs.declared.bundles.Entry.{Entry}
use Rattle.cover_logic.specs.declared.bundles.Literal.{Literal}
use Rattle.cover_terms.specs.declared.term.Term.{Term}
use Rattle.cover_terms.specs.Term.{FitsWidth, LooksAt}
use Rattle.cover_logic.specs.Inner.Entries.{HasLiterals, IsAgainst, IsWithin}
use Rattle.cover_terms.specs.Pair.{HasLiteral, agree, refines}
use Rattle.cover_logic.specs.Inner.Planes.{AreLiteralsOf, IsLiteralOf}
use Rattle.cover_terms.specs.Laws.Bits.{below_width, zero_is_not_one, zero_or_one}
use Rattle.cover_terms.specs.Laws.Terms.{agree_at, agree_from_bits, refines_at, refines_from}

-- the term has the other literal at the column
abbrev pub IsOpposedAt : Term → Literal → Type 0
IsOpposedAt t l = HasLiteral t l.column (if not l.one then 1 else 0)

-- at the column of one of the first literals
abbrev pub IsOpposed : Term → List Literal → ℕ → Type 0
IsOpposed t literals count = (j : ℕ) × (j < count) × ((d : Literal) → IsOpposedAt t (get_or literals j d))

-- a row and a term with the other literal at a column share no value
pub opposed_apart : (row t : Term) (l : Literal) → IsLiteralOf row l → IsOpposedAt t l → agree row t ≡ false
opposed_apart row t l has other = ⊎_elim
    (λ some. absurd (differ l.one (bit_at row.value l.column) has.1 (agree_at row t some l.column has.0 other.0 ∙ other.1))) (λ none. none)
    (cases_Bool (agree row t))
  where
    differ : (one : Bool) (b : ℕ) → b ≡ (if one then 1 else 0) → b ≡ (if not one then 1 else 0) → ⊥
    differ true b e f = zero_is_not_one b f e
    differ false b e f = zero_is_not_one b e f

-- at the column of a literal a term has that literal, or the other one
other_bit : (one : Bool) (b : ℕ) → b < 2 → (b ≡ (if one then 1 else 0)) ⊎ (b ≡ (if not one then 1 else 0))
other_bit true b h = ⊎_elim (λ e. inr e) (λ e. inl e) (zero_or_one b h)
other_bit false b h = zero_or_one b h

pub agree_unless_opposed : (row t : Term) (literals : List Literal) → AreLiteralsOf row literals → (IsOpposed t literals (length literals) → ⊥) → agree row t ≡ true
agree_unless_opposed row t literals all none = agree_from_bits row t (λ i l m.
    let h = all.all i l in
    let has = All-contains (IsLiteralOf row) literals h.0 all.among h.1 in
    let at : bit_at row.value i ≡ (if h.0.one then 1 else 0) = ap (bit_at row.value) (sym h.2) ∙ has.1 in
    ⊎_elim (λ e. at ∙ sym e)
    (λ e.
    let other : IsOpposedAt t h.0 = (ap (bit_at t.care) h.2 ∙ m, ap (bit_at t.value) h.2 ∙ e) in
    absurd (none (h.1.0, h.1.1, λ d. subst (λ (x : Literal). IsOpposedAt t x) (sym h.1.2 ∙ get_or_default literals h.1.0 h.0 d h.1.1) other)))
    (other_bit h.0.one (bit_at t.value i) (bit_at-lt t.value i)))

-- the places of entries with the other literal at the column of one of the first literals
abbrev pub IsAgainstFirst : List Literal → ℕ → List Entry → ℕ → Type 0
IsAgainstFirst literals count entries places =
    (k : ℕ) (d : Entry) → k < length entries → (bit_at places k ≡ 1) ↔ IsOpposed (get_or entries k d).term literals count

pub against_none : (literals : List Literal) (entries : List Entry) → IsAgainstFirst literals 0 entries 0
against_none literals entries k d below = (λ one. absurd (zero_is_not_one (bit_at 0 k) (bit_at-zero k) one), λ h. let none = h.1 in absurd (omega arith))

pub against_more : (literals : List Literal) (count : ℕ) (l : Literal) (entries : List Entry) (a b : ℕ) → count < length literals → IsAgainstFirst literals count entries a → HasLiterals (get_or literals count l).column (if not (get_or literals count l).one then 1 else 0) entries b → IsAgainstFirst literals (count + 1) entries (bit_or a b)
against_more literals count l entries a b below p q k d in' = (
  λ one. ⊎_elim (λ left. let h = (p k d in').0 left in (h.0, let low = h.1 in omega arith, h.2))
      (λ right. (count, omega arith, λ e. subst (λ (x : Literal). IsOpposedAt (get_or entries k d).term x) (get_or_default literals count l e below) ((q k d in').0 right)))
      (either (bit_at a k) (bit_at b k) (bit_at-lt a k) (sym (bit_at_or a b k) ∙ one)),
  λ h. bit_at_or a b k
      ∙ ⊎_elim (λ same. right _ _ (bit_at-lt a k) ((q k d in').1 (subst (λ (x : Literal). IsOpposedAt (get_or entries k d).term x) (ap (λ j. get_or literals j l) same) (h.2 l))))
      (λ ne. left _ _ (bit_at-lt b k) ((p k d in').1 (h.0, let low = h.1 in omega arith, h.2))) (cases_eq h.0 count),
)
  where
    either : (m n : ℕ) → m < 2 → max m n ≡ 1 → (m ≡ 1) ⊎ (n ≡ 1)
    either m n h e = ⊎_elim (λ zero. inr (omega arith)) (λ one. inl one) (zero_or_one m h)

    right : (m n : ℕ) → m < 2 → n ≡ 1 → max m n ≡ 1
    right m n h e = omega arith

    left : (m n : ℕ) → n < 2 → m ≡ 1 → max m n ≡ 1
    left m n h e = omega arith

-- opposed at one of the first literals of the row, a term shares no value with it
opposed_first : (row t : Term) (literals : List Literal) (count : ℕ) → AreLiteralsOf row literals → count ≤ length literals → IsOpposed t literals count → agree row t ≡ false
opposed_first row t literals count all low h =
    let below : h.0 < length literals = (let in' = h.1 in omega arith) in
    let d : Literal = record { column = 0; one = true } in
    opposed_apart row t (get_or literals h.0 d) (all.among h.0 d below) (h.2 d)

pub against_all : (row : Term) (literals : List Literal) (count : ℕ) (entries : List Entry) (places : ℕ) → AreLiteralsOf row literals → length literals ≡ count → IsAgainstFirst literals count entries places → IsAgainst row entries places
against_all row literals count entries places all same h k d below = (
  λ one. opposed_first row (get_or entries k d).term literals count all (omega arith) ((h k d below).0 one),
  λ apart. ⊎_elim
      (λ zero. absurd (false≢true (sym apart ∙ agree_unless_opposed row (get_or entries k d).term literals all
      (λ o. zero_is_not_one (bit_at places k) zero ((h k d below).1 (subst (λ n. IsOpposed (get_or entries k d).term literals n) same o))))))
      (λ one. one) (zero_or_one (bit_at places k) (bit_at-lt places k)),
)

-- once all places are against the row
pub against_full : (row : Term) (literals : List Literal) (count : ℕ) (entries : List Entry) (places : ℕ) → AreLiteralsOf row literals → count ≤ length literals → ((k : ℕ) → k < length entries → bit_at places k ≡ 1) → IsAgainstFirst literals count entries places → IsAgainst row entries places
against_full row literals count entries places all low full h k d below =
    (λ one. opposed_first row (get_or entries k d).term literals count all low ((h k d below).0 one), λ apart. full k below)

-- the term has each of the first literals
abbrev pub HasFirst : Term → List Literal → ℕ → Type 0
HasFirst t literals count = (j : ℕ) (d : Literal) → j < count → IsLiteralOf t (get_or literals j d)

pub refines_from_literals : (row t : Term) (literals : List Literal) → AreLiteralsOf row literals → HasFirst t literals (length literals) → refines row t ≡ true
refines_from_literals row t literals all each = refines_from row t (λ i l.
    let h = all.all i l in
    let own = All-contains (IsLiteralOf row) literals h.0 all.among h.1 in
    let has : IsLiteralOf t h.0 = subst (λ (x : Literal). IsLiteralOf t x) h.1.2 (each h.1.0 h.0 h.1.1) in
    (ap (bit_at t.care) (sym h.2) ∙ has.0, ap (bit_at t.value) (sym h.2) ∙ (has.1 ∙ (sym own.1 ∙ ap (bit_at row.value) h.2))))

pub literals_from_refines : (row t : Term) (literals : List Literal) (count : ℕ) → AreLiteralsOf row literals → count ≤ length literals → refines row t ≡ true → HasFirst t literals count
literals_from_refines row t literals count all low h j d in' =
    let own = all.among j d (omega arith) in
    let at = refines_at row t h (get_or literals j d).column own.0 in
    (at.0, at.1 ∙ own.1)

-- those of the places whose entries have each of the first literals
abbrev pub IsWithinFirst : List Literal → ℕ → List Entry → ℕ → ℕ → Type 0
IsWithinFirst literals count entries places within =
    (k : ℕ) (d : Entry) → k < length entries → (bit_at within k ≡ 1) ↔ ((bit_at places k ≡ 1) × HasFirst (get_or entries k d).term literals count)

pub within_none : (literals : List Literal) (entries : List Entry) (places : ℕ) → IsWithinFirst literals 0 entries places places
within_none literals entries places k d below = (λ one. (one, λ j e low. absurd (omega arith)), λ h. h.0)

pub within_more : (literals : List Literal) (count : ℕ) (l : Literal) (entries : List Entry) (places a b : ℕ) → count < length literals → IsWithinFirst literals count entries places a → HasLiterals (get_or literals count l).column (if (get_or literals count l).one then 1 else 0) entries b → IsWithinFirst literals (count + 1) entries places (bit_and a b)
within_more literals count l entries places a b below p q k d in' = (
  λ one.
      let both = both_ones (bit_at a k) (bit_at b k) (bit_at-lt a k) (bit_at-lt b k) (sym (bit_at_and a b k) ∙ one) in
      let first = (p k d in').0 both.0 in (
        first.0,
        λ j e low. ⊎_elim
            (λ same. subst (λ (x : Literal). IsLiteralOf (get_or entries k d).term x) (get_or_default literals count l e below ∙ ap (λ i. get_or literals i e) (sym same)) ((q k d in').0 both.1))
            (λ ne. first.1 j e (omega arith)) (cases_eq j count),
      ),
  λ h. bit_at_and a b k
      ∙ one_one _ _ ((p k d in').1 (h.0, λ j e low. h.1 j e (omega arith))) ((q k d in').1 (h.1 count l (omega arith))),
)
  where
    both_ones : (m n : ℕ) → m < 2 → n < 2 → min m n ≡ 1 → (m ≡ 1) × (n ≡ 1)
    both_ones m n p q h = (omega arith, omega arith)

    one_one : (m n : ℕ) → m ≡ 1 → n ≡ 1 → min m n ≡ 1
    one_one m n p q = omega arith

pub within_all : (row : Term) (literals : List Literal) (count : ℕ) (entries : List Entry) (places within : ℕ) → AreLiteralsOf row literals → length literals ≡ count → IsWithinFirst literals count entries places within → IsWithin row entries places within
within_all row literals count entries places within all same h k d below = (
  λ one.
      let first = (h k d below).0 one in
      (first.0, refines_from_literals row (get_or entries k d).term literals all (subst (λ n. HasFirst (get_or entries k d).term literals n) (sym same) first.1)),
  λ both. (h k d below).1 (both.0, literals_from_refines row (get_or entries k d).term literals count all (omega arith) both.1),
)

-- once no place is left
pub within_empty : (row : Term) (literals : List Literal) (count : ℕ) (entries : List Entry) (places within : ℕ) → AreLiteralsOf row literals → count ≤ length literals → ((k : ℕ) → bit_at within k ≡ 0) → IsWithinFirst literals count entries places within → IsWithin row entries places within
within_empty row literals count entries places within all low empty h k d below = (
  λ one. absurd (zero_is_not_one (bit_at within k) (empty k) one),
  λ both. (h k d below).1 (both.0, literals_from_refines row (get_or entries k d).term literals count all low both.1),
)

-- the literals of the row from a column on
pub record AreLaterLiterals (row : Term) (column : ℕ) (literals : List Literal) : Type 0 where
  pub among : All (IsLiteralOf row) literals
  pub all : (i : ℕ) → column ≤ i → LooksAt row i → (l : Literal) × Contains literals l × (l.column ≡ i)

pub later_none : (row : Term) (width : ℕ) → FitsWidth width row → AreLaterLiterals row width []
later_none row width fits = record {
  among = All-nil (IsLiteralOf row);
  all = λ i ge l. let low = below_width width row.care i fits l in absurd (omega (arith, low));
}

-- a literal at the column before
pub later_more : (row : Term) (column before : ℕ) (literals : List Literal) (l : Literal) → before + 1 ≡ column → l.column ≡ before → IsLiteralOf row l → AreLaterLiterals row column literals → AreLaterLiterals row before (literals ++ l ∷ [])
later_more row column before literals l next at has a = record {
  among = All-push (IsLiteralOf row) literals l a.among has;
  all = λ i ge looks. ⊎_elim (λ same. (l, Contains-push literals l, at ∙ sym same))
      (λ ne. let h = a.all i (omega arith) looks in (h.0, Contains-append_left literals (l ∷ []) h.0 h.1, h.2)) (cases_eq i before);
}

-- and a dash there
pub later_passed : (row : Term) (column before : ℕ) (literals : List Literal) → before + 1 ≡ column → (LooksAt row before → ⊥) → AreLaterLiterals row column literals → AreLaterLiterals row before literals
later_passed row column before literals next dash a = record {
  among = a.among;
  all = λ i ge looks. ⊎_elim (λ same. absurd (dash (subst (λ j. LooksAt row j) same looks))) (λ ne. a.all i (omega arith) looks) (cases_eq i before);
}

pub later_all : (row : Term) (column : ℕ) (literals : List Literal) → column ≡ 0 → AreLaterLiterals row column literals → AreLiteralsOf row literals
later_all row column literals none a = record { among = a.among; all = λ i looks. a.all i (omega arith) looks }

-- a term that looks at a column has a literal there
pub some_literal : (t : Term) (column : ℕ) → LooksAt t column → HasLiteral t column 1 ⊎ HasLiteral t column 0
some_literal t column looks = ⊎_elim (λ zero. inr (looks, zero)) (λ one. inl (looks, one)) (zero_or_one (bit_at t.value column) (bit_at-lt t.value column))
