-- The labels that values get when they are numbered by first appearance.
use Rattle.std.proofs.Common.{◌≡◌, ℕ, ◌+◌, ◌<◌, ◌≢◌, List, [], ◌∷◌, ◌++◌, length, get_or, set, Option, None, Some, MatchOption, refl, sym, ap, ◌∙◌, subst, inl, inr, arith}
use Rattle.std.proofs.lemmas.List.{length_push, get_or_append_left, get_or_push, get_or-set_same, get_or-set_other}
use Rattle.std.proofs.lemmas.Option.{none-some, same_Some}
use Rattle.std.proofs.lemmas.Bool.{cases_eq}
use Rattle.partition.specs.Partition.{blocks_of, IsNumbered, IsPartition, IsStateCount, SameTogether}
use Rattle.partition.specs.Laws.Labels.{blocks_of-push, label-lt-blocks_of, IsNumbered-none, IsNumbered-push}

-- the first i values have these labels, and seen has the label of each value that came
pub record IsNumbering (values : List ℕ) (i : ℕ) (seen : List (Option ℕ)) (labels : List ℕ) (blocks : ℕ) : Type 0 where
  pub size : length labels ≡ i
  pub count : blocks ≡ blocks_of labels
  pub numbered : IsNumbered labels
  pub kept : (s : ℕ) → s < i → get_or seen (get_or values s 0) None ≡ Some (get_or labels s 0)
  pub came : (value label : ℕ) → get_or seen value None ≡ Some label → (s : ℕ) × (s < i) × (get_or values s 0 ≡ value) × (get_or labels s 0 ≡ label)
  pub apart : (s t : ℕ) → s < i → t < i → get_or labels s 0 ≡ get_or labels t 0 → get_or values s 0 ≡ get_or values t 0

-- a fact of each of the first i states and of state i
below_next : {P : ℕ → Type 0} (i : ℕ) → ((s : ℕ) → s < i → P s) → P i → (s : ℕ) → s < i + 1 → P s
below_next {P} i before here s within =
    elim (cases_eq s i) [
      | inl at ↦ subst P (sym at) here
      | inr other ↦ before s (omega arith)
    ]

pub numbering_none : (values : List ℕ) (seen : List (Option ℕ)) → ((value : ℕ) → get_or seen value None ≡ None) → IsNumbering values 0 seen [] 0
numbering_none values seen empty = record {
  size = refl;
  count = refl;
  numbered = IsNumbered-none;
  kept = λ s within. absurd (omega arith);
  came = λ value label known. absurd (none-some label (sym (empty value) ∙ known));
  apart = λ s t within. absurd (omega arith);
}

-- the labels so far and one more
label_push_old : (labels : List ℕ) (label s i : ℕ) → length labels ≡ i → s < i → get_or (labels ++ label ∷ []) s 0 ≡ get_or labels s 0
label_push_old labels label s i size within = get_or_append_left labels (label ∷ []) 0 s (omega arith)

-- a value that came before keeps its label
step_known : (values : List ℕ) (i : ℕ) (seen : List (Option ℕ)) (labels : List ℕ) (blocks label : ℕ) → IsNumbering values i seen labels blocks → get_or seen (get_or values i 0) None ≡ Some label → IsNumbering values (i + 1) seen (labels ++ label ∷ []) blocks
step_known values i seen labels blocks label so_far known =
    let old = so_far.came (get_or values i 0) label known in
    let here : get_or (labels ++ label ∷ []) i 0 ≡ label = get_or_push labels label 0 i so_far.size in
    let front : (s : ℕ) → s < i → get_or (labels ++ label ∷ []) s 0 ≡ get_or labels s 0 = λ s within. label_push_old labels label s i so_far.size within in
    let below : label < blocks_of labels = omega (arith, label-lt-blocks_of labels old.0 (omega (arith, so_far.size)), old.3) in
    let as_here : (s : ℕ) → s < i → get_or labels s 0 ≡ label → get_or values s 0 ≡ get_or values i 0 = λ s within same. so_far.apart s old.0 within old.1 (same ∙ sym old.3) ∙ old.2 in
    record {
      size = length_push labels label ∙ ap (λ (n : ℕ). n + 1) so_far.size;
      count = omega (arith, so_far.count, blocks_of-push labels label);
      numbered = IsNumbered-push labels label so_far.numbered (omega arith);
      kept = below_next {P = λ s. get_or seen (get_or values s 0) None ≡ Some (get_or (labels ++ label ∷ []) s 0)} i (λ s within. so_far.kept s within ∙ ap (λ (l : ℕ). Some l) (sym (front s within))) (known ∙ ap (λ (l : ℕ). Some l) (sym here));
      came = λ value other is. let earlier = so_far.came value other is in (earlier.0, omega (arith, earlier.1), earlier.2, front earlier.0 earlier.1 ∙ earlier.3);
      apart = λ s t. below_next {P = λ s. t < i + 1 → get_or (labels ++ label ∷ []) s 0 ≡ get_or (labels ++ label ∷ []) t 0 → get_or values s 0 ≡ get_or values t 0} i
          (λ s in_s. below_next {P = λ t. get_or (labels ++ label ∷ []) s 0 ≡ get_or (labels ++ label ∷ []) t 0 → get_or values s 0 ≡ get_or values t 0} i
          (λ t in_t same. so_far.apart s t in_s in_t (sym (front s in_s) ∙ same ∙ front t in_t))
          (λ same. as_here s in_s (sym (front s in_s) ∙ same ∙ here)) t)
          (below_next {P = λ t. get_or (labels ++ label ∷ []) i 0 ≡ get_or (labels ++ label ∷ []) t 0 → get_or values i 0 ≡ get_or values t 0} i
          (λ t in_t same. sym (as_here t in_t (sym (front t in_t) ∙ sym same ∙ here)))
          (λ _. refl) t)
          s;
    }

-- a value that is new gets the next label
step_new : (values : List ℕ) (i : ℕ) (seen : List (Option ℕ)) (labels : List ℕ) (blocks : ℕ) → IsNumbering values i seen labels blocks → get_or values i 0 < length seen → get_or seen (get_or values i 0) None ≡ None → IsNumbering values (i + 1) (set seen (get_or values i 0) (Some blocks)) (labels ++ blocks ∷ []) (blocks + 1)
step_new values i seen labels blocks so_far room new =
    let value : ℕ = get_or values i 0 in
    let here : get_or (labels ++ blocks ∷ []) i 0 ≡ blocks = get_or_push labels blocks 0 i so_far.size in
    let front : (s : ℕ) → s < i → get_or (labels ++ blocks ∷ []) s 0 ≡ get_or labels s 0 = λ s within. label_push_old labels blocks s i so_far.size within in
    let set_here : get_or (set seen value (Some blocks)) value None ≡ Some blocks = get_or-set_same seen value (Some blocks) None room in
    let set_other : (other : ℕ) → other ≢ value → get_or (set seen value (Some blocks)) other None ≡ get_or seen other None = λ other differs. get_or-set_other seen value other (Some blocks) None differs in
    let fresh : (s : ℕ) → s < i → get_or values s 0 ≢ value = λ s within same. none-some (get_or labels s 0) (sym new ∙ sym (ap (λ (v : ℕ). get_or seen v None) same) ∙ so_far.kept s within) in
    let lower : (s : ℕ) → s < i → get_or labels s 0 < blocks = λ s within. omega (arith, label-lt-blocks_of labels s (omega (arith, so_far.size)), so_far.count) in
    record {
      size = length_push labels blocks ∙ ap (λ (n : ℕ). n + 1) so_far.size;
      count = omega (arith, so_far.count, blocks_of-push labels blocks);
      numbered = IsNumbered-push labels blocks so_far.numbered (omega (arith, so_far.count));
      kept = below_next {P = λ s. get_or (set seen value (Some blocks)) (get_or values s 0) None ≡ Some (get_or (labels ++ blocks ∷ []) s 0)} i (λ s within. set_other (get_or values s 0) (fresh s within) ∙ so_far.kept s within ∙ ap (λ (l : ℕ). Some l) (sym (front s within))) (set_here ∙ ap (λ (l : ℕ). Some l) (sym here));
      came = λ other label is. elim (cases_eq other value) [
        | inl at ↦ (i, omega arith, sym at, here ∙ same_Some blocks label (sym set_here ∙ sym (ap (λ (v : ℕ). get_or (set seen value (Some blocks)) v None) at) ∙ is))
        | inr differs ↦ let earlier = so_far.came other label (sym (set_other other differs) ∙ is) in (earlier.0, omega (arith, earlier.1), earlier.2, front earlier.0 earlier.1 ∙ earlier.3)
      ];
      apart = λ s t. below_next {P = λ s. t < i + 1 → get_or (labels ++ blocks ∷ []) s 0 ≡ get_or (labels ++ blocks ∷ []) t 0 → get_or values s 0 ≡ get_or values t 0} i
          (λ s in_s. below_next {P = λ t. get_or (labels ++ blocks ∷ []) s 0 ≡ get_or (labels ++ blocks ∷ []) t 0 → get_or values s 0 ≡ get_or values t 0} i
          (λ t in_t same. so_far.apart s t in_s in_t (sym (front s in_s) ∙ same ∙ front t in_t))
          (λ same. let low = lower s in_s in let is : get_or labels s 0 ≡ blocks = sym (front s in_s) ∙ same ∙ here in absurd (omega (arith, low, is))) t)
          (below_next {P = λ t. get_or (labels ++ blocks ∷ []) i 0 ≡ get_or (labels ++ blocks ∷ []) t 0 → get_or values i 0 ≡ get_or values t 0} i
          (λ t in_t same. let low = lower t in_t in let is : get_or labels t 0 ≡ blocks = sym (front t in_t) ∙ sym same ∙ here in absurd (omega (arith, low, is)))
          (λ _. refl) t)
          s;
    }

-- one value more, by what the code does at it
pub numbering_step : (values : List ℕ) (i : ℕ) (seen seen' : List (Option ℕ)) (labels : List ℕ) (blocks blocks' label : ℕ) → IsNumbering values i seen labels blocks → get_or values i 0 < length seen
    → MatchOption (get_or seen (get_or values i 0) None) ((label ≡ blocks) × (blocks' ≡ blocks + 1) × (seen' ≡ set seen (get_or values i 0) (Some label))) (λ known. (label ≡ known) × (blocks' ≡ blocks) × (seen' ≡ seen))
    → IsNumbering values (i + 1) seen' (labels ++ label ∷ []) blocks'
numbering_step values i seen seen' labels blocks blocks' label so_far room takes = by_case (get_or seen (get_or values i 0) None) refl takes
  where
    by_case : (o : Option ℕ) → get_or seen (get_or values i 0) None ≡ o → MatchOption o ((label ≡ blocks) × (blocks' ≡ blocks + 1) × (seen' ≡ set seen (get_or values i 0) (Some label))) (λ known. (label ≡ known) × (blocks' ≡ blocks) × (seen' ≡ seen)) → IsNumbering values (i + 1) seen' (labels ++ label ∷ []) blocks'
    by_case None new took = rw (took.2, took.1, took.0) (step_new values i seen labels blocks so_far room new)
    by_case (Some known) old took = rw (took.2, took.1, took.0) (step_known values i seen labels blocks known so_far old)

-- all values together
pub numbering_is : (values : List ℕ) (seen : List (Option ℕ)) (labels : List ℕ) (blocks : ℕ) → IsStateCount (length values) → IsNumbering values (length values) seen labels blocks → IsPartition (length values) labels × SameTogether values labels
numbering_is values seen labels blocks states all = (
  record { count = states; length = all.size; numbered = all.numbered },
  λ s t. (
    (λ held. (omega (arith, held.0, all.size), omega (arith, held.1, all.size), same_Some _ _ (sym (all.kept s held.0) ∙ ap (λ (v : ℕ). get_or seen v None) held.2 ∙ all.kept t held.1))),
    (λ held. let in_s : s < length values = omega (arith, held.0, all.size) in let in_t : t < length values = omega (arith, held.1, all.size) in (in_s, in_t, all.apart s t in_s in_t held.2)),
  ),
)
