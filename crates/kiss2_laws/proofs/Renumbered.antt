-- States that are numbered by first appearance are numbered so again.
use Rattle.std.proofs.Common.{◌≡◌, ℕ, zero, suc, ◌+◌, ◌<◌, ◌≤◌, true, false, cond, List, [], ◌∷◌, ◌++◌, length, map, take, Some, All, Contains, ap, sym, ◌∙◌, refl, subst, inl, inr, arith}
use Rattle.std.specs.Prelude.{slice_get, slice_index}
use Rattle.std.proofs.lemmas.Bool.{cases_lt, false≢true, false_from_ne_true}
use Rattle.std.proofs.lemmas.List.{get_or-map, get_or-take, get_or_default, length-map, length-take, length-take-le, map-append, take_all, take_more}
use Rattle.std.proofs.lemmas.Option.{slice_get-get_or}
use Rattle.kiss2.specs.Inner.ReaderState.{once_after}
use Rattle.kiss_file.specs.Names.{AreDistinct, name_of}
use Rattle.kiss2.specs.Standing.{each_once}
use Rattle.kiss2.specs.Laws.Finding.{contained_from_test, contained_test}
use Rattle.kiss2.specs.Laws.Once.{among, among-each_once, each_once-append}
use Rattle.kiss2.specs.Laws.SameRecord.{number_once}

named : List (List ℕ) → List ℕ → List (List ℕ)
named states numbers = map (name_of states) numbers

no_names : each_once [] ≡ []
unfolding each_once
no_names = refl

-- a name of a number is among the names
among_named : (states : List (List ℕ)) (numbers : List ℕ) (s : ℕ) → Contains numbers s → among (name_of states s) (named states numbers) ≡ true
unfolding named
among_named states numbers s (k, lt, same) =
    contained_test (map (name_of states) numbers) (name_of states s)
    (k, omega (arith, length-map numbers (name_of states)), get_or-map (name_of states) numbers k s (name_of states s) lt ∙ ap (name_of states) same)

module _ (states : List (List ℕ)) (numbers : List ℕ) (distinct : AreDistinct states)
    (each : (s : ℕ) → s < length states → Contains numbers s)
    (in_order : (place s : ℕ) → place < length numbers → s < slice_index numbers place → Contains (take place numbers) s)
    (within : All (λ n. n < length states) numbers) where
  -- the names so far are the first states
  record IsFront (count m : ℕ) : Type 0 where
    short : m ≤ length states
    front : each_once (named states (take count numbers)) ≡ take m states

  -- the first states have the names of their numbers, and of no other
  in_front : (m s : ℕ) → s < m → m ≤ length states → among (name_of states s) (take m states) ≡ true
  in_front m s lt le =
      contained_test (take m states) (name_of states s)
      (s, omega (arith, length-take-le m states le), get_or-take m states s (name_of states s) lt ∙ get_or_default states s (name_of states s) [] (omega arith))

  past_front : (m s : ℕ) → m ≤ s → s < length states → among (name_of states s) (take m states) ≡ false
  past_front m s le lt = false_from_ne_true _ (λ there.
      let at = contained_from_test (take m states) (name_of states s) there in
      let few : at.0 < m = omega (arith, at.1, length-take-bound m) in
      let inside : at.0 < length states = omega arith in
      let here : slice_get states at.0 ≡ Some (name_of states s) = slice_get-get_or states at.0 (name_of states s) inside ∙ ap Some (sym (get_or-take m states at.0 (name_of states s) few) ∙ at.2) in
      let same : at.0 ≡ s = number_once states (name_of states s) at.0 s distinct here (slice_get-get_or states s [] lt) in
      absurd (omega arith)) where
        length-take-bound : (n : ℕ) → length (take n states) ≤ n
        length-take-bound n = omega (arith, length-take n states)

  front_more : (count m : ℕ) → count < length numbers → IsFront count m → (n : ℕ) × IsFront (count + 1) n
  unfolding named
  front_more count m inside so_far =
      let a = slice_index numbers count in
      let lt : a < length states = within count 0 inside in
      let more : each_once (named states (take (count + 1) numbers)) ≡ once_after (take m states) (name_of states a ∷ []) =
      ap (λ ns. each_once (map (name_of states) ns)) (take_more numbers count 0 inside)
      ∙ (ap each_once (map-append (name_of states) (take count numbers) (a ∷ []))
      ∙ (each_once-append (map (name_of states) (take count numbers)) (name_of states a ∷ []) ∙ ap (λ front. once_after front (name_of states a ∷ [])) so_far.front)) in
      elim (cases_lt a m) [
        | inl known ↦ (m, record { short = so_far.short; front = more ∙ ap (λ t. cond t (take m states) (take m states ++ name_of states a ∷ [])) (in_front m a known so_far.short) })
        | inr new ↦
            let put = more ∙ ap (λ t. cond t (take m states) (take m states ++ name_of states a ∷ [])) (past_front m a new lt) in
            elim (cases_lt m a) [
              | inl skipped ↦
                  let there : among (name_of states m) (take m states) ≡ true =
                  ap (among (name_of states m)) (sym so_far.front) ∙ (among-each_once (name_of states m) (named states (take count numbers)) ∙ among_named states (take count numbers) m (in_order count m inside skipped)) in
                  absurd (false≢true (sym (past_front m m (omega arith) (omega arith)) ∙ there))
              | inr last ↦
                  let same : a ≡ m = omega arith in
                  (m + 1, record { short = omega arith; front = put ∙ (ap (λ s. take m states ++ name_of states s ∷ []) same ∙ sym (take_more states m [] (omega arith))) })
            ]
      ]

  fronts : (count : ℕ) → count ≤ length numbers → (m : ℕ) × IsFront count m
  unfolding named
  fronts zero le = (0, record { short = omega arith; front = no_names })
  fronts (suc count) le =
      let before = fronts count (omega arith) in
      let next : count + 1 ≡ suc count = omega arith in
      let more = front_more count before.0 (omega arith) before.1 in
      (more.0, subst (λ n. IsFront n more.0) next more.1)

  -- all names are all states
  pub renumbered : each_once (map (name_of states) numbers) ≡ states
  unfolding named
  renumbered =
      let whole = fronts (length numbers) (omega arith) in
      let short = whole.1.short in
      let all : each_once (map (name_of states) numbers) ≡ take whole.0 states = ap (λ ns. each_once (map (name_of states) ns)) (sym (take_all (length numbers) numbers (omega arith))) ∙ whole.1.front in
      elim (cases_lt whole.0 (length states)) [
        | inl less ↦
            let there : among (name_of states whole.0) (take whole.0 states) ≡ true =
            ap (among (name_of states whole.0)) (sym all) ∙ (among-each_once (name_of states whole.0) (named states numbers) ∙ among_named states numbers whole.0 (each whole.0 less)) in
            absurd (false≢true (sym (past_front whole.0 whole.0 (omega arith) less) ∙ there))
        | inr full ↦ all ∙ take_all whole.0 states full
      ]
