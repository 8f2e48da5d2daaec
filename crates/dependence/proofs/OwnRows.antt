-- The rows of a state by their numbers, in the order of the file.
use Rattle.std.proofs.Common.{◌≡◌, ◌==◌, ◌∙◌, ℕ, suc, ◌+◌, ◌-◌, ◌<◌, ◌≤◌, Bool, false, true, Contains, List, [], ◌∷◌, ◌++◌, None, Option, Some, filter, get_or, length, slice_get, take, inl, inr, refl, sym, ap, subst, arith}
use Rattle.std.proofs.lemmas.Bool.{eq-eqb, eqb-true, false≢true}
use Rattle.std.proofs.lemmas.List.{take_more}
use Rattle.std.proofs.lemmas.List.Elements.{Contains-get_or, filter_map-append}
use Rattle.std.proofs.lemmas.List.Kept.{AllPairs-from_increasing, Contains-dedup_nat, Contains-from_dedup}
use Rattle.std.proofs.lemmas.List.Sorted.{Contains-permutation, IsPermutation-sym}
use Rattle.std.proofs.lemmas.Map.Keys.{IsStrictlyIncreasing-dedup}
use Rattle.std.proofs.lemmas.Option.{same_Some, slice_get_within}
use Rattle.std.specs.List.{dedup, filter_map}
use Rattle.std.specs.List.Sorted.{IsPermutation, IsSorted, IsStrictlyIncreasing}
use Rattle.std.specs.Ordering.{nat_cmp}
use Rattle.list_facts.specs.Laws.Members.{Contains-cons, Contains-filter, Contains-from_filter, Contains-here, Contains-none}
use Rattle.kiss_file.specs.declared.file.KissFile.{KissFile}
use Rattle.kiss_file.specs.declared.file.KissRow.{KissRow}
use Rattle.kiss_file.specs.Machine.{Conflicting}
use Rattle.machine_table.specs.Table.{IsTable}
use Rattle.state_rows.specs.Places.{IsNumberOf}
use Rattle.dependence.specs.FilledRows.{own_rows}
use Rattle.dependence.specs.Inner.FilledRows.{AreRowsOf}
use Rattle.dependence.specs.Inner.OwnRows.{AreOwnNumbers}
use Rattle.dependence.proofs.FilledRows.{own_is_right}

-- ---- ascending numbers
rest_ascends : (c : ℕ) (rest : List ℕ) → IsStrictlyIncreasing (c ∷ rest) → IsStrictlyIncreasing rest
rest_ascends c rest up k within =
    let next : suc k + 1 ≡ suc (k + 1) = omega arith in
    subst (λ (j : ℕ). get_or rest k 0 < get_or (c ∷ rest) j 0) next (up (suc k) (omega (arith, within)))

head_below : (c : ℕ) (rest : List ℕ) (d : ℕ) → IsStrictlyIncreasing (c ∷ rest) → Contains rest d → c < d
head_below c rest d up is = subst (λ (e : ℕ). c < e) is.2 (AllPairs-from_increasing (c ∷ rest) up 0 (suc is.0) d (omega arith) (omega (arith, is.1)))

-- ---- the rows that have numbers
-- A list from place b on. The numbers are those from b on of its items that pass a test.
record AreThoseFrom {X : Type 0} (test : X → Bool) (at : ℕ → Option X) (b : ℕ) (xs : List X) (numbers : List ℕ) : Type 0 where
  ascend : IsStrictlyIncreasing numbers
  there : (k : ℕ) → at (b + k) ≡ slice_get xs k
  own : (i : ℕ) → Contains numbers i → (b ≤ i) × ((x : X) × (at i ≡ Some x) × (test x ≡ true))
  each : (k : ℕ) (x : X) → slice_get xs k ≡ Some x → test x ≡ true → Contains numbers (b + k)

module _ {X : Type 0} (test : X → Bool) (at : ℕ → Option X) where
  none_past : (b : ℕ) (numbers : List ℕ) → AreThoseFrom test at b [] numbers → numbers ≡ []
  none_past b [] those = refl
  none_past b (n ∷ numbers) those =
      let own = those.own n (Contains-here n numbers) in
      let place : b + (n - b) ≡ n = omega (arith, own.0) in
      let past : at n ≡ None = subst (λ (i : ℕ). at i ≡ None) place (those.there (n - b)) in
      let both : Some own.1.0 ≡ None = sym own.1.1 ∙ past in
      absurd (cc)

  there_later : (b : ℕ) (x : X) (xs : List X) → ((k : ℕ) → at (b + k) ≡ slice_get (x ∷ xs) k) → (k : ℕ) → at (b + 1 + k) ≡ slice_get xs k
  there_later b x xs there k = let place : b + suc k ≡ b + 1 + k = omega arith in subst (λ (i : ℕ). at i ≡ slice_get xs k) place (there (suc k))

  first_there : (b : ℕ) (x : X) (xs : List X) → ((k : ℕ) → at (b + k) ≡ slice_get (x ∷ xs) k) → at b ≡ Some x
  first_there b x xs there = let place : b + 0 ≡ b = omega arith in subst (λ (i : ℕ). at i ≡ Some x) place (there 0)

  -- an item that fails the test has no number
  passed : (b : ℕ) (x : X) (xs : List X) (numbers : List ℕ) → test x ≡ false → AreThoseFrom test at b (x ∷ xs) numbers → AreThoseFrom test at (b + 1) xs numbers
  passed b x xs numbers fails those =
      record {
        ascend = those.ascend;
        there = there_later b x xs those.there;
        own = λ i among. (later i among, (those.own i among).1);
        each = λ k y is passes. let place : b + suc k ≡ b + 1 + k = omega arith in subst (Contains numbers) place (those.each (suc k) y is passes);
      }
    where
      later : (i : ℕ) → Contains numbers i → b + 1 ≤ i
      later i among =
          let own = those.own i among in
          omega (
            arith,
            own.0,
            (λ (here : b ≡ i).
                let first : at i ≡ Some x = subst (λ (n : ℕ). at n ≡ Some x) here (first_there b x xs those.there) in
                let one : x ≡ own.1.0 = same_Some x own.1.0 (sym first ∙ own.1.1) in
                false≢true (sym fails ∙ ap test one ∙ own.1.2)),
          )

  -- an item that passes it has the least of the numbers
  least : (b : ℕ) (x : X) (xs : List X) (n : ℕ) (numbers : List ℕ) → test x ≡ true → AreThoseFrom test at b (x ∷ xs) (n ∷ numbers) → n ≡ b
  least b x xs n numbers passes those =
      let place : b + 0 ≡ b = omega arith in
      let here : Contains (n ∷ numbers) b = subst (Contains (n ∷ numbers)) place (those.each 0 x refl passes) in
      elim (Contains-cons n b numbers here) [
        | inl is ↦ is
        | inr later ↦ absurd (omega (arith, head_below n numbers b those.ascend later, (those.own n (Contains-here n numbers)).0))
      ]

  taken : (b : ℕ) (x : X) (xs : List X) (n : ℕ) (numbers : List ℕ) → test x ≡ true → AreThoseFrom test at b (x ∷ xs) (n ∷ numbers) → AreThoseFrom test at (b + 1) xs numbers
  taken b x xs n numbers passes those =
      record {
        ascend = rest_ascends n numbers those.ascend;
        there = there_later b x xs those.there;
        own = λ i among. (
          omega (arith, head_below n numbers i those.ascend among, least b x xs n numbers passes those),
          (those.own i (suc among.0, omega (arith, among.1), among.2)).1,
        );
        each = λ k y is passes_too. let place : b + suc k ≡ b + 1 + k = omega arith in later k (subst (Contains (n ∷ numbers)) place (those.each (suc k) y is passes_too));
      }
    where
      later : (k : ℕ) → Contains (n ∷ numbers) (b + 1 + k) → Contains numbers (b + 1 + k)
      later k among =
          elim (Contains-cons n (b + 1 + k) numbers among) [
            | inl is ↦ absurd (omega (arith, is, least b x xs n numbers passes those))
            | inr there ↦ there
          ]

  none_left : (b : ℕ) (x : X) (xs : List X) → test x ≡ true → AreThoseFrom test at b (x ∷ xs) [] → ⊥
  none_left b x xs passes those = Contains-none (b + 0) (those.each 0 x refl passes)

  those_are : (b : ℕ) (xs : List X) (numbers : List ℕ) → AreThoseFrom test at b xs numbers → filter_map at numbers ≡ filter test xs
  those_are b [] numbers those = ap (filter_map at) (none_past b numbers those)
  those_are b (x ∷ xs) numbers those = by (test x) refl numbers those (λ others. those_are (b + 1) xs others) where
    by : (passes : Bool) → test x ≡ passes → (numbers : List ℕ) → AreThoseFrom test at b (x ∷ xs) numbers
        → ((others : List ℕ) → AreThoseFrom test at (b + 1) xs others → filter_map at others ≡ filter test xs) → filter_map at numbers ≡ filter test (x ∷ xs)
    by false fails numbers those later = rw fails (later numbers (passed b x xs numbers fails those))
    by true passes [] those later = absurd (none_left b x xs passes those)
    by true passes (n ∷ numbers) those later =
        let rest : filter_map at numbers ≡ filter test xs = later numbers (taken b x xs n numbers passes those) in
        let first : at n ≡ Some x = subst (λ (i : ℕ). at i ≡ Some x) (sym (least b x xs n numbers passes those)) (first_there b x xs those.there) in
        rw passes (rw first (ap (λ (list : List X). x ∷ list) rest))

-- ---- the numbers of a machine's rows
module _ (F : KissFile) (s : ℕ) where
  pub numbers_sorted : (listed sorted kept : List ℕ) → ((i : ℕ) → Contains listed i → IsNumberOf F s i)
      → ((i : ℕ) (row : KissRow) → slice_get F.rows i ≡ Some row → row.from ≡ s → Contains listed i) → IsPermutation listed sorted → IsSorted nat_cmp sorted → kept ≡ dedup (λ a b. a == b) sorted → AreOwnNumbers F s kept
  numbers_sorted listed sorted kept own each moved up is =
      subst (AreOwnNumbers F s) (sym is) (record { ascend = IsStrictlyIncreasing-dedup sorted up; inside = λ k d lt. within (get_or list k d) (Contains-get_or list k d lt); own = own_kept; each = each_kept })
    where
      list : List ℕ
      list = dedup (λ a b. a == b) sorted

      own_kept : (i : ℕ) → Contains list i → IsNumberOf F s i
      own_kept i among = own i (Contains-permutation sorted listed i (IsPermutation-sym listed sorted moved) (Contains-from_dedup (λ a b. a == b) sorted i among))

      within : (i : ℕ) → Contains list i → i < length F.rows
      within i among = let number = own_kept i among in slice_get_within F.rows i number.0 number.1

      each_kept : (i : ℕ) (row : KissRow) → slice_get F.rows i ≡ Some row → row.from ≡ s → Contains list i
      each_kept i row there from = Contains-dedup_nat sorted i (Contains-permutation listed sorted i moved (each i row there from))

  -- the rows with these numbers are those of the state
  pub rows_numbered : (numbers : List ℕ) → AreOwnNumbers F s numbers → filter_map (slice_get F.rows) numbers ≡ own_rows F s
  rows_numbered numbers are =
      those_are (λ (row : KissRow). row.from == s) (slice_get F.rows) 0 F.rows numbers
      (record {
        ascend = are.ascend;
        there = λ k. let place : k ≡ 0 + k = omega arith in ap (slice_get F.rows) (sym place);
        own = λ i among. let number = are.own i among in (omega arith, (number.0, number.1, eq-eqb number.0.from s number.2));
        each = λ k row there passes. let place : k ≡ 0 + k = omega arith in subst (Contains numbers) place (are.each k row there (eqb-true row.from s passes));
      })

-- one row more
pub rows_more : (rows : List KissRow) (numbers : List ℕ) (k : ℕ) (row : KissRow) → k < length numbers → slice_get rows (get_or numbers k 0) ≡ Some row
    → filter_map (slice_get rows) (take (k + 1) numbers) ≡ filter_map (slice_get rows) (take k numbers) ++ row ∷ []
rows_more rows numbers k row within there =
    let n : ℕ = get_or numbers k 0 in
    let one : filter_map (slice_get rows) (n ∷ []) ≡ row ∷ [] = rw there refl in
    ap (filter_map (slice_get rows)) (take_more numbers k 0 within) ∙ filter_map-append (slice_get rows) (take k numbers) (n ∷ []) ∙ ap (λ (list : List KissRow). filter_map (slice_get rows) (take k numbers) ++ list) one

-- the rows of a state are right, and each of them is there
pub own_are : (F : KissFile) → IsTable F → (Conflicting F → ⊥) → (s : ℕ) → AreRowsOf F s (own_rows F s)
own_are F table no_conflict s =
    record {
      own = λ row of_state. Contains-filter (λ (r : KissRow). r.from == s) F.rows row of_state.0 (eq-eqb row.from s of_state.1);
      right = λ k d lt.
          let row : KissRow = get_or (own_rows F s) k d in
          let inside = Contains-from_filter (λ (r : KissRow). r.from == s) F.rows row (Contains-get_or (own_rows F s) k d lt) in
          own_is_right F table no_conflict s row (inside.0, eqb-true row.from s inside.1);
    }
