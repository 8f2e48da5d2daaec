-- There is a meet of any two partitions, and of any list of them.
use Rattle.std.proofs.Common.{◌≡◌, ℕ, zero, suc, ◌+◌, ◌*◌, ◌<◌, ◌≤◌, ◌↔◌, ◌⊎◌, inl, inr, All, List, [], ◌∷◌, ◌++◌, length, get_or, refl, sym, ap, ◌∙◌, subst, arith}
use Rattle.std.proofs.lemmas.Bool.{cases_eq}
use Rattle.std.proofs.lemmas.List.{length_push, get_or_append_left, get_or_push}
use Rattle.std.proofs.lemmas.List.Elements.{All-nil, All-cons, All-head, All-tail}
use Rattle.kiss_file.specs.declared.file.KissFile.{KissFile}
use Rattle.pair_operators.specs.Laws.Pairs.{meets_pair}
use Rattle.partition.specs.Partition.{IsNumbered, IsPartition, IsStateCount, Together, blocks_of}
use Rattle.partition.specs.MeetAndJoin.{IsMeet}
use Rattle.partition.specs.Laws.Labels.{IsNumbered-none, IsNumbered-push, IsPartition-of, label-le, label-lt-blocks_of}
use Rattle.closed_lattice.specs.ClosedPartitions.{IsClosedPartition}

-- the labels of the states below k, by their keys
record IsLabelled (key : ℕ → ℕ) (k : ℕ) (labels : List ℕ) : Type 0 where
  size : length labels ≡ k
  numbered : IsNumbered labels
  same : (s t : ℕ) → s < k → t < k → get_or labels s 0 ≡ get_or labels t 0 → key s ≡ key t
  agree : (s t : ℕ) → s < k → t < k → key s ≡ key t → get_or labels s 0 ≡ get_or labels t 0

labelled_more : (key : ℕ → ℕ) (k : ℕ) (labels : List ℕ) (label : ℕ) → IsLabelled key k labels → label ≤ blocks_of labels
    → ((t : ℕ) → t < k → get_or labels t 0 ≡ label → key t ≡ key k) → ((t : ℕ) → t < k → key t ≡ key k → get_or labels t 0 ≡ label)
    → IsLabelled key (suc k) (labels ++ label ∷ [])
labelled_more key k labels label so_far small same agree = record {
  size = omega (arith, length_push labels label, so_far.size);
  numbered = IsNumbered-push labels label so_far.numbered small;
  same = λ s t in_s in_t equal. elim (cases_eq s k) [
    | inl s_last ↦ elim (cases_eq t k) [
      | inl t_last ↦ ap key (s_last ∙ sym t_last)
      | inr t_old ↦ ap key s_last ∙ sym (same t (omega arith) (sym (old t (omega arith)) ∙ sym equal ∙ last s s_last))
    ]
    | inr s_old ↦ elim (cases_eq t k) [
      | inl t_last ↦ same s (omega arith) (sym (old s (omega arith)) ∙ equal ∙ last t t_last) ∙ ap key (sym t_last)
      | inr t_old ↦ so_far.same s t (omega arith) (omega arith) (sym (old s (omega arith)) ∙ equal ∙ old t (omega arith))
    ]
  ];
  agree = λ s t in_s in_t equal. elim (cases_eq s k) [
    | inl s_last ↦ elim (cases_eq t k) [
      | inl t_last ↦ last s s_last ∙ sym (last t t_last)
      | inr t_old ↦ last s s_last ∙ sym (old t (omega arith) ∙ agree t (omega arith) (sym equal ∙ ap key s_last))
    ]
    | inr s_old ↦ elim (cases_eq t k) [
      | inl t_last ↦ old s (omega arith) ∙ agree s (omega arith) (equal ∙ ap key t_last) ∙ sym (last t t_last)
      | inr t_old ↦ old s (omega arith) ∙ so_far.agree s t (omega arith) (omega arith) equal ∙ sym (old t (omega arith))
    ]
  ];
}
  where
    old : (s : ℕ) → s < k → get_or (labels ++ label ∷ []) s 0 ≡ get_or labels s 0
    old s within = get_or_append_left labels (label ∷ []) 0 s (omega (arith, so_far.size))

    last : (s : ℕ) → s ≡ k → get_or (labels ++ label ∷ []) s 0 ≡ label
    last s at = get_or_push labels label 0 s (omega (arith, so_far.size))

-- a state below k with this key, or none
seek : (key : ℕ → ℕ) (value k : ℕ) → ((t : ℕ) × (t < k) × (key t ≡ value)) ⊎ ((t : ℕ) → t < k → key t ≡ value → ⊥)
seek key value zero = inr (λ t within. absurd (omega arith))
seek key value (suc k) =
    elim (cases_eq (key k) value) [
      | inl here ↦ inl (k, omega arith, here)
      | inr other ↦ elim (seek key value k) [
        | inl found ↦ inl (found.0, omega (arith, found.1), found.2)
        | inr none ↦ inr (λ t within same. elim (cases_eq t k) [
          | inl last ↦ other (subst (λ (u : ℕ). key u ≡ value) last same)
          | inr before ↦ none t (omega arith) same
        ])
      ]
    ]

labelled : (key : ℕ → ℕ) (k : ℕ) → (labels : List ℕ) × IsLabelled key k labels
labelled key zero = ([], record { size = refl; numbered = IsNumbered-none; same = λ s t in_s. absurd (omega arith); agree = λ s t in_s. absurd (omega arith) })
labelled key (suc k) =
    let so_far = labelled key k in
    let labels = so_far.0 in
    elim (seek key (key k) k) [
      | inl found ↦
          let label = get_or labels found.0 0 in
          let below : label < blocks_of labels = label-lt-blocks_of labels found.0 (omega (arith, found.1, so_far.1.size)) in (
            labels ++ label ∷ [],
            labelled_more key k labels label so_far.1 (omega arith)
                (λ t within equal. so_far.1.same t found.0 within found.1 equal ∙ found.2)
                (λ t within equal. so_far.1.agree t found.0 within found.1 (equal ∙ sym found.2)),
          )
      | inr none ↦ (
        labels ++ blocks_of labels ∷ [],
        labelled_more key k labels (blocks_of labels) so_far.1 (omega arith)
            (λ t within equal. absurd (omega (arith, label-lt-blocks_of labels t (omega (arith, so_far.1.size)))))
            (λ t within equal. absurd (none t within equal)),
      )
    ]

pub meet_exists : (n : ℕ) (p q : List ℕ) → IsPartition n p → IsPartition n q → (r : List ℕ) × IsMeet p q r
meet_exists n p q p_lawful q_lawful =
    let key : ℕ → ℕ = λ s. get_or p s 0 * 256 + get_or q s 0 in
    let made = labelled key n in (
      made.0,
      record {
        lawful = record { count = subst IsStateCount (sym p_lawful.length) p_lawful.count; length = made.1.size ∙ sym p_lawful.length; numbered = made.1.numbered };
        together = λ s t. (
          (λ held.
              let in_s : s < n = omega (arith, held.0, made.1.size) in
              let in_t : t < n = omega (arith, held.1, made.1.size) in
              let equal : get_or p s 0 * 256 + get_or q s 0 ≡ get_or p t 0 * 256 + get_or q t 0 = made.1.same s t in_s in_t held.2 in
              let small_s : get_or q s 0 ≤ s = label-le q q_lawful.numbered s (omega (arith, q_lawful.length)) in
              let small_t : get_or q t 0 ≤ t = label-le q q_lawful.numbered t (omega (arith, q_lawful.length)) in
              let few : n ≤ 256 = p_lawful.count.1 in
              ((omega (arith, p_lawful.length), omega (arith, p_lawful.length), omega arith), (omega (arith, q_lawful.length), omega (arith, q_lawful.length), omega arith))),
          (λ both. (omega (arith, both.0.0, made.1.size, p_lawful.length), omega (arith, both.0.1, made.1.size, p_lawful.length), made.1.agree s t (omega (arith, both.0.0, p_lawful.length)) (omega (arith, both.0.1, p_lawful.length)) (omega (arith, both.0.2, both.1.2)))),
        );
      },
    )

-- closed partitions, one at least, have a closed meet
pub all_meet_closed : (F : KissFile) (p : List ℕ) (list : List (List ℕ)) → All (IsClosedPartition F) (p ∷ list) → (r : List ℕ) × IsClosedPartition F r × ((s t : ℕ) → Together r s t ↔ All (λ q. Together q s t) (p ∷ list))
all_meet_closed F p [] all = (
  p,
  All-head (IsClosedPartition F) p [] all,
  (λ s t. (
    (λ held. All-cons (λ q. Together q s t) p [] held (All-nil (λ q. Together q s t))),
    (λ each. All-head (λ q. Together q s t) p [] each),
  )),
)
all_meet_closed F p (next ∷ list) all =
    let rest = all_meet_closed F next list (All-tail (IsClosedPartition F) p (next ∷ list) all) in
    let one = All-head (IsClosedPartition F) p (next ∷ list) all in
    let found = meet_exists (length F.states) p rest.0 one.0 rest.1.0 in (
      found.0,
      (IsPartition-of one.0.length found.1.lawful, meets_pair F p p rest.0 rest.0 found.0 found.0 one.1 rest.1.1 found.1 found.1),
      (λ s t. (
        (λ held. let both = (found.1.together s t).0 held in All-cons (λ q. Together q s t) p (next ∷ list) both.0 ((rest.2 s t).0 both.1)),
        (λ each. (found.1.together s t).1 (All-head (λ q. Together q s t) p (next ∷ list) each, (rest.2 s t).1 (All-tail (λ q. Together q s t) p (next ∷ list) each))),
      )),
    )
