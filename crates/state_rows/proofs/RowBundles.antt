-- Rows in bundles, and the words that mark them.
use Rattle.std.proofs.Common.{◌≡◌, ℕ, ◌+◌, ◌-◌, ◌<◌, ◌≤◌, ◌^◌, ◌↔◌, ◌++◌, ◌∷◌, [], min, List, All, AllPairs, length, get_or, take, drop, Some, Contains, slice_get, inl, inr, ap, sym, ◌∙◌, subst, arith, bit_and, length-append, length-take, length-drop, get_or-take, get_or-drop}
use Rattle.std.specs.Int.{bit_at, bit_not, w64}
use Rattle.std.proofs.Math.Nat.{min-le_left}
use Rattle.std.proofs.lemmas.Bool.{cases_eq, cases_lt}
use Rattle.std.proofs.lemmas.List.{get_or_append_left, get_or_default, get_or_past, get_or_push}
use Rattle.std.proofs.lemmas.List.Elements.{Contains-append_left, Contains-get_or, Contains-push, Contains-push_cases}
use Rattle.std.proofs.lemmas.Nat.Bits.{bit_at-lt, bit_at_and, bit_at_not}
use Rattle.std.proofs.lemmas.Option.{slice_get_within, slice_get-get_or, get_or_from_slice_get}
use Rattle.kiss_file.specs.declared.file.KissRow.{KissRow}
use Rattle.pattern_bundles.specs.declared.pattern.Pattern.{Pattern}
use Rattle.pattern_bundles.specs.Pattern.{Marks}
use Rattle.state_rows.specs.declared.bundles.Aspect.{Aspect}
use Rattle.state_rows.specs.declared.bundles.Aspect.TheVariants.{Symbols, Next, Outputs}
use Rattle.state_rows.specs.declared.bundles.RowBundle.{RowBundle}
use Rattle.state_rows.specs.Bundles.{AreBundles, ArePatterns, IsBundle, IsInBundles, ListBundles, MarksRows, bundles_of, pattern_of}
use Rattle.state_rows.specs.Columns.{IsAtPlace}
use Rattle.state_rows.specs.Places.{ArePlaces, places_of}
use Rattle.state_rows.specs.Laws.Marks.{none_of_zero}

module _ (rows : List KissRow) (numbers : List ℕ) where
  -- marks of patterns are marks of rows
  pub marks_of : (aspect : Aspect) (patterns : List Pattern) (P : Pattern → Type 0) (word : ℕ)
      → ArePatterns aspect rows numbers (length numbers) patterns → Marks patterns P word → MarksRows rows numbers (λ row. P (pattern_of aspect row)) word
  marks_of aspect patterns P word made marks = record {
    each = λ k row at. marks.each k (pattern_of aspect row) (made.each k row at.0 at.1);
    no_more = λ k one. let below = marks.no_more k one in omega (arith, below, made.size);
  }

  -- the same rows, told in another way
  pub marks_as : (P Q : KissRow → Type 0) (word : ℕ) → ((k : ℕ) (row : KissRow) → IsAtPlace rows numbers k row → P row ↔ Q row)
      → MarksRows rows numbers P word → MarksRows rows numbers Q word
  marks_as P Q word same marks = record {
    each = λ k row at. ((λ one. (same k row at).0 ((marks.each k row at).0 one)), (λ has. (marks.each k row at).1 ((same k row at).1 has)));
    no_more = marks.no_more;
  }

  -- where no row of one kind is marked, none of a narrower kind is
  pub marks_fewer : (P Q : KissRow → Type 0) → ((k : ℕ) (row : KissRow) → IsAtPlace rows numbers k row → Q row → P row) → MarksRows rows numbers P 0 → MarksRows rows numbers Q 0
  marks_fewer P Q narrower marks = record {
    each = λ k row at. ((λ one. absurd (none_of_zero k one)), (λ has. (marks.each k row at).1 (narrower k row at has)));
    no_more = marks.no_more;
  }

  module _ (M A B C : KissRow → Type 0) (m a b : ℕ) (few : length numbers ≤ 64) (fits : bit_and a b < 2 ^ 64)
      (marked : MarksRows rows numbers M m) (first : MarksRows rows numbers A a) (second : MarksRows rows numbers B b) where
    digit : (k : ℕ) → k < length numbers → bit_at (bit_and m (bit_not w64 (bit_and a b))) k ≡ min (bit_at m k) (1 - min (bit_at a k) (bit_at b k))
    digit k below =
        bit_at_and m (bit_not w64 (bit_and a b)) k
        ∙ ap (min (bit_at m k)) (bit_at_not w64 (bit_and a b) k fits (omega (arith, below, few)) ∙ ap (λ n. 1 - n) (bit_at_and a b k))

    -- the marked rows of one kind that are not of both others
    pub marks_without : ((k : ℕ) (row : KissRow) → IsAtPlace rows numbers k row → C row → M row × (A row → B row → ⊥))
        → ((k : ℕ) (row : KissRow) → IsAtPlace rows numbers k row → M row → (A row → B row → ⊥) → C row)
        → MarksRows rows numbers C (bit_and m (bit_not w64 (bit_and a b)))
    marks_without there back = record {
      each = λ k row at. (
        λ one.
            let is = digit k at.0 in
            let low = bit_at-lt m k in
            let met : bit_at m k ≡ 1 = omega (arith, is, one, low) in
            back k row at ((marked.each k row at).0 met)
            (λ has also. let f = (first.each k row at).1 has in let g = (second.each k row at).1 also in omega (arith, is, one, f, g)),
        λ has.
            let told = there k row at has in
            let is = digit k at.0 in
            let met = (marked.each k row at).1 told.0 in
            elim (cases_eq (bit_at a k) 1) [
              | inl f ↦
                  elim (cases_eq (bit_at b k) 1) [
                    | inl g ↦ absurd (told.1 ((first.each k row at).0 f) ((second.each k row at).0 g))
                    | inr g ↦ let low = bit_at-lt b k in omega (arith, is, met, g, low)
                  ]
              | inr f ↦ let low = bit_at-lt a k in omega (arith, is, met, f, low)
            ],
      );
      no_more = λ k one.
          let is = bit_at_and m (bit_not w64 (bit_and a b)) k in
          let low = bit_at-lt m k in
          marked.no_more k (omega (arith, is, one, low));
    }

-- ---- patterns and bundles, one after another
-- the pattern of one more row
pub patterns_more : (aspect : Aspect) (rows : List KissRow) (numbers : List ℕ) (i : ℕ) (patterns : List Pattern) (row : KissRow)
    → ArePatterns aspect rows numbers i patterns → slice_get rows (get_or numbers i 0) ≡ Some row → ArePatterns aspect rows numbers (i + 1) (patterns ++ pattern_of aspect row ∷ [])
patterns_more aspect rows numbers i patterns row made at_row = record {
  size = omega (arith, length-append patterns (pattern_of aspect row ∷ []), made.size);
  each = λ k other below at.
      elim (cases_lt k i) [
        | inl before ↦
            let it = pattern_of aspect other in
            let all = patterns ++ pattern_of aspect row ∷ [] in
            let here : k < length patterns = omega (arith, before, made.size) in
            let same : get_or all k it ≡ it = get_or_append_left patterns (pattern_of aspect row ∷ []) it k here ∙ get_or_from_slice_get patterns k it it (made.each k other before at) in
            slice_get-get_or all k it (omega (arith, length-append patterns (pattern_of aspect row ∷ []), here)) ∙ ap (λ (p : Pattern). Some p) same
        | inr last ↦
            let now : k ≡ i = omega (arith, below, last) in
            let both : Some other ≡ Some row = sym at ∙ ap (λ (n : ℕ). slice_get rows (get_or numbers n 0)) now ∙ at_row in
            let same : row ≡ other = cc in
            let it = pattern_of aspect row in
            let all = patterns ++ it ∷ [] in
            slice_get-get_or all k it (omega (arith, length-append patterns (it ∷ []), now, made.size))
            ∙ ap (λ (p : Pattern). Some p) (get_or_push patterns it it k (made.size ∙ sym now) ∙ ap (pattern_of aspect) same)
      ];
}

-- the bundle of patterns of rows with ascending numbers
pub bundle_of_patterns : (rows : List KissRow) (numbers own : List ℕ) (cubes nexts outputs : List Pattern) → own ≡ numbers → length numbers ≤ 64
    → All (λ i. i < length rows) numbers → AllPairs (λ i j. i < j) numbers → ArePatterns Symbols rows numbers (length numbers) cubes
    → ArePatterns Next rows numbers (length numbers) nexts → ArePatterns Outputs rows numbers (length numbers) outputs
    → IsBundle rows (record { numbers = own; cubes = cubes; nexts = nexts; outputs = outputs })
bundle_of_patterns rows numbers own cubes nexts outputs same few inside ascending first second third =
    subst (λ (ns : List ℕ). IsBundle rows (record { numbers = ns; cubes = cubes; nexts = nexts; outputs = outputs })) (sym same)
    (record { few = few; inside = inside; ascending = ascending; cubes = first; nexts = second; outputs = third })

-- the numbers at some places from one on
module _ (numbers : List ℕ) (start count : ℕ) (within : start + count ≤ length numbers) where
  pub part_length : length (take count (drop start numbers)) ≡ count
  part_length = omega (arith, length-take count (drop start numbers), length-drop start numbers)

  pub part_at : (k d : ℕ) → k < count → get_or (take count (drop start numbers)) k d ≡ get_or numbers (start + k) d
  part_at k d below = get_or-take count (drop start numbers) k d below ∙ get_or-drop start numbers k d

  pub part_all : (P : ℕ → Type 0) → All P numbers → All P (take count (drop start numbers))
  part_all P all k d below =
      let low : k < count = omega (arith, below, part_length) in
      subst P (sym (part_at k d low)) (all (start + k) d (omega (arith, low)))

  pub part_ascending : AllPairs (λ i j. i < j) numbers → AllPairs (λ i j. i < j) (take count (drop start numbers))
  part_ascending pairs i j d before below =
      let low : j < count = omega (arith, below, part_length) in
      let first = part_at i d (omega (arith, before, low)) in
      let second = part_at j d low in
      let less = pairs (start + i) (start + j) d (omega (arith, before)) (omega (arith, low)) in
      omega (arith, first, second, less)

  pub part_own : (i : ℕ) → Contains (take count (drop start numbers)) i → Contains numbers i
  part_own i (k, below, is) =
      let low : k < count = omega (arith, below, part_length) in
      (start + k, omega (arith, low), sym (part_at k i low) ∙ is)

  pub part_each : (k d : ℕ) → start ≤ k → k < start + count → Contains (take count (drop start numbers)) (get_or numbers k d)
  part_each k d from below =
      let low : k - start < count = omega (arith, from, below) in
      let at : start + (k - start) ≡ k = omega (arith, from) in (
        k - start,
        omega (arith, low, part_length),
        part_at (k - start) (get_or numbers k d) low ∙ ap (λ (n : ℕ). get_or numbers n (get_or numbers k d)) at
            ∙ get_or_default numbers k (get_or numbers k d) d (omega (arith, below)),
      )

-- the next part of the numbers, of 64 at most
pub part_within : (numbers : List ℕ) (start count : ℕ) → start ≤ length numbers → count ≡ min (length numbers - start) 64 → start + count ≤ length numbers
part_within numbers start count from is = omega (arith, is, min-le_left (length numbers - start) 64)

pub part_few : (numbers : List ℕ) (start count : ℕ) → count ≤ 64 → length (take count (drop start numbers)) ≤ 64
part_few numbers start count few = omega (arith, length-take count (drop start numbers), min-le_left count (length (drop start numbers)))

-- the bundles hold the rows with the numbers at the first places
pub record AreBundlesBelow (rows : List KissRow) (numbers : List ℕ) (count : ℕ) (bundles : List RowBundle) : Type 0 where
  pub right : (bundle : RowBundle) → Contains bundles bundle → IsBundle rows bundle
  pub own : (bundle : RowBundle) (i : ℕ) → Contains bundles bundle → Contains bundle.numbers i → Contains numbers i
  pub each : (k d : ℕ) → k < count → IsInBundles bundles (get_or numbers k d)

module _ (rows : List KissRow) (numbers : List ℕ) where
  pub bundles_none : AreBundlesBelow rows numbers 0 []
  bundles_none = record {
    right = λ bundle among. absurd (omega (arith, among.1));
    own = λ bundle i among own. absurd (omega (arith, among.1));
    each = λ k d below. absurd (omega (arith, below));
  }

  pub bundles_more : (start count : ℕ) (bundles : List RowBundle) (bundle : RowBundle) → start + count ≤ length numbers → bundle.numbers ≡ take count (drop start numbers)
      → IsBundle rows bundle → AreBundlesBelow rows numbers start bundles → AreBundlesBelow rows numbers (start + count) (bundles ++ bundle ∷ [])
  bundles_more start count bundles bundle within is right old = record {
    right = λ other among.
        elim (Contains-push_cases bundles bundle other among) [
          | inl before ↦ old.right other before
          | inr last ↦ subst (IsBundle rows) last right
        ];
    own = λ other i among own.
        elim (Contains-push_cases bundles bundle other among) [
          | inl before ↦ old.own other i before own
          | inr last ↦
              part_own numbers start count within i
              (subst (λ (list : List ℕ). Contains list i) is (subst (λ (b : RowBundle). Contains b.numbers i) (sym last) own))
        ];
    each = λ k d below.
        elim (cases_lt k start) [
          | inl before ↦
              let found = old.each k d before in
              (found.0, Contains-append_left bundles (bundle ∷ []) found.0 found.1, found.2)
          | inr from ↦
              (bundle, Contains-push bundles bundle, subst (λ (list : List ℕ). Contains list (get_or numbers k d)) (sym is) (part_each numbers start count within k d from below))
        ];
  }

  pub bundles_all : (bundles : List RowBundle) (count : ℕ) → length numbers ≤ count → AreBundlesBelow rows numbers count bundles → AreBundles rows numbers bundles
  bundles_all bundles count all below = record {
    right = below.right;
    own = below.own;
    each = λ i among. subst (IsInBundles bundles) among.2 (below.each among.0 i (omega (arith, among.1, all)));
  }

-- the number is that of a row in one of the first bundles
abbrev pub IsInFirst : List RowBundle → (count : ℕ) → ℕ → Type 0
IsInFirst bundles count i = (k : ℕ) × (k < count) × (bundle : RowBundle) × (get_or bundles k bundle ≡ bundle) × Contains bundle.numbers i

-- ---- the bundles of states
pub inside_of_places : (rows : List KissRow) (places : List (List ℕ)) → ArePlaces rows (length places) (length rows) places → (s : ℕ) → All (λ i. i < length rows) (places_of places s)
inside_of_places rows places stand s k d below = (stand.own s (get_or (places_of places s) k d) (Contains-get_or (places_of places s) k d below)).1

pub bundles_more_states : (rows : List KissRow) (places : List (List ℕ)) (lists : List (List RowBundle)) (n : ℕ) (own : List RowBundle)
    → length lists ≡ n → AreBundles rows (places_of places n) own
    → ((s : ℕ) → s < n → AreBundles rows (places_of places s) (bundles_of lists s))
    → (s : ℕ) → s < n + 1 → AreBundles rows (places_of places s) (bundles_of (lists ++ own ∷ []) s)
bundles_more_states rows places lists n own count now known s below =
    elim (cases_lt s n) [
      | inl before ↦
          subst (AreBundles rows (places_of places s)) (sym (get_or_append_left lists (own ∷ []) [] s (omega (arith, count, before)))) (known s before)
      | inr last ↦
          let at : s ≡ n = omega (arith, below, last) in
          subst (AreBundles rows (places_of places s)) (sym (get_or_push lists own [] s (count ∙ sym at)))
          (subst (λ (k : ℕ). AreBundles rows (places_of places k) own) (sym at) now)
    ]

pub list_bundles : (rows : List KissRow) (places : List (List ℕ)) (lists : List (List RowBundle)) → ArePlaces rows (length places) (length rows) places
    → length lists ≡ length places → ((s : ℕ) → s < length places → AreBundles rows (places_of places s) (bundles_of lists s))
    → ListBundles rows (length places) lists
list_bundles rows places lists stand count known = record {
  size = count;
  right = λ s bundle among. (known s (inside s bundle among)).right bundle among;
  own = λ s i found.
      let there = stand.own s i ((known s (inside s found.0 found.1)).own found.0 i found.1 found.2) in
      (there.0, there.2, there.3);
  each = λ i row at.
      let among = stand.each i row (slice_get_within rows i row at) at in
      (known row.from (state row.from i among)).each i among;
}
  where
    inside : (s : ℕ) (bundle : RowBundle) → Contains (bundles_of lists s) bundle → s < length places
    inside s bundle among =
        elim (cases_lt s (length places)) [
          | inl within ↦ within
          | inr past ↦
              let none : bundles_of lists s ≡ [] = get_or_past lists s [] (omega (arith, count, past)) in
              let there : Contains {X = RowBundle} [] bundle = subst (λ (list : List RowBundle). Contains list bundle) none among in
              absurd (omega (arith, there.1))
        ]

    state : (s i : ℕ) → Contains (places_of places s) i → s < length places
    state s i among =
        elim (cases_lt s (length places)) [
          | inl within ↦ within
          | inr past ↦
              let none : places_of places s ≡ [] = get_or_past places s [] past in
              let there : Contains {X = ℕ} [] i = subst (λ (list : List ℕ). Contains list i) none among in
              absurd (omega (arith, there.1))
        ]
