-- Codes that are tried one after another.
use Rattle.std.proofs.Common.{◌≡◌, ◌⊎◌, ◌↔◌, ◌≢◌, ◌∙◌, ℕ, ◌+◌, ◌-◌, ◌*◌, ◌%◌, ◌^◌, ◌<◌, ◌≤◌, bit_and, bit_or, List, Option, Some, None, length, get_or, set, inl, inr, refl, ap, sym, subst, w64, arith}
use Rattle.std.proofs.lemmas.Bool.{cases_eq, cases_lt}
use Rattle.std.proofs.lemmas.List.{ext_get_or, get_or-set_other, get_or-set_same, get_or_past, length-set}
use Rattle.std.proofs.lemmas.Nat.Bits.{bit_at-lt, bit_at-zero, bit_at_set_other, bit_at_set_same, bit_at_and, bit_at_ones, bit_at_ones_above, same_from_bits_below, same_from_bits}
use Rattle.std.proofs.lemmas.Nat.{pow_pos}
use Rattle.std.specs.Int.{bit_at}
use Rattle.std.proofs.lemmas.Nat.{and_mask}
use Rattle.kiss_file.specs.declared.file.KissFile.{KissFile}
use Rattle.least_codes.specs.declared.code.Best.{Best}
use Rattle.least_codes.specs.Cost.{IsCost}
use Rattle.least_codes.specs.Inner.Lists.{AreBefore, AreSeen, BeginSame, IsDraft, IsBestSeen, IsLessThan, IsUsed, Stays, Takes}
use Rattle.least_codes.specs.LeastCode.{AreCodeWords, TextsBefore}
use Rattle.least_codes.proofs.Costs.{cost_once}

-- what was seen may be told in another way
pub kept_same : (F : KissFile) (bits : ℕ) (Seen Other : List ℕ → Type 0) → ((others : List ℕ) → AreCodeWords (length F.states) bits others → Seen others ↔ Other others) → (best : Option Best) → IsBestSeen F bits Seen best → IsBestSeen F bits Other best
kept_same F bits Seen Other same None kept = λ others codes seen. kept others codes ((same others codes).1 seen)
kept_same F bits Seen Other same (Some best) kept = record {
  codes = kept.codes;
  seen = (same best.words.items kept.codes).0 kept.seen;
  cost = kept.cost;
  least = λ others other codes seen cost. kept.least others other codes ((same others codes).1 seen) cost;
  first = λ others codes seen cost. kept.first others codes ((same others codes).1 seen) cost;
}

-- a bit of a number is 0 or 1
zero_or_one : (n i : ℕ) → (bit_at n i ≡ 0) ⊎ (bit_at n i ≡ 1)
zero_or_one n i = elim (cases_eq (bit_at n i) 0) [ inl none ↦ inl none | inr some ↦ inr (omega (arith, some, bit_at-lt n i)) ]

-- a number with no bit from a place on is below the power there
short_from_bits : (n bits : ℕ) → ((i : ℕ) → bits ≤ i → bit_at n i ≡ 0) → n < 2 ^ bits
short_from_bits n bits none =
    let masked : n ≡ bit_and n (2 ^ bits - 1) = same_from_bits n (bit_and n (2 ^ bits - 1)) (λ i. elim (cases_lt i bits) [
      | inl below ↦ omega (arith, bit_at_and n (2 ^ bits - 1) i, bit_at_ones bits i below, bit_at-lt n i)
      | inr above ↦ omega (arith, bit_at_and n (2 ^ bits - 1) i, bit_at_ones_above bits i above, none i above)
    ]) in
    let rest : n ≡ n % 2 ^ bits = masked ∙ and_mask n bits in
    omega (arith, rest, pow_pos bits)

module _ (words : List ℕ) (s i : ℕ) (blank : bit_at (get_or words s 0) i ≡ 0) where
  -- with a 0 there, nothing more is before
  pub before_zero : (others : List ℕ) → AreBefore words s i others ↔ AreBefore words s (i + 1) others
  before_zero others = (
    (λ before. record { order = before.order; early = elim before.early [ inl low ↦ inl low | inr here ↦ inr (here.0, omega (arith, here.1)) ] }),
    (λ before. record {
      order = before.order;
      early = elim before.early [
        | inl low ↦ inl low
        | inr here ↦ elim (cases_eq before.order.bit i) [
          | inl at ↦ absurd (contradict before.order here.0 at)
          | inr other ↦ inr (here.0, omega (arith, here.1, other))
        ]
      ];
    }),
  ) where
    contradict : (order : TextsBefore others words) → order.state ≡ s → order.bit ≡ i → ⊥
    contradict order at_state at_bit =
        let one : bit_at (get_or words s 0) i ≡ 1 = subst (λ (u : ℕ). bit_at (get_or words u 0) i ≡ 1) at_state (subst (λ (c : ℕ). bit_at (get_or words order.state 0) c ≡ 1) at_bit order.one) in
        omega (arith, one, blank)

  module _ (wider : List ℕ) (bit_there : bit_at (get_or wider s 0) i ≡ 1) (bits_else : (c : ℕ) → c < i → bit_at (get_or wider s 0) c ≡ bit_at (get_or words s 0) c) (states_else : (u : ℕ) → u < s → get_or wider u 0 ≡ get_or words u 0) where
    -- with a 1 there, those with a 0 are before
    to_wider : (others : List ℕ) → AreSeen words s (i + 1) others → AreBefore wider s (i + 1) others
    to_wider others seen =
        elim seen [
          | inl before ↦ moved ((before_zero others).1 before)
          | inr same ↦ record {
            order = record {
              state = s;
              bit = i;
              states_before = λ u below. same.states u below ∙ sym (states_else u below);
              bits_before = λ c below. same.bits c (omega (arith, below)) ∙ sym (bits_else c below);
              zero = same.bits i (omega arith) ∙ blank;
              one = bit_there;
            };
            early = inr (refl, omega arith);
          }
        ] where
          moved : AreBefore words s i others → AreBefore wider s (i + 1) others
          moved before =
              elim before.early [
                | inl low ↦ record {
                  order = record {
                    state = before.order.state;
                    bit = before.order.bit;
                    states_before = λ u below. before.order.states_before u below ∙ sym (states_else u (omega (arith, below, low)));
                    bits_before = λ c below. before.order.bits_before c below ∙ sym (ap (λ (n : ℕ). bit_at n c) (states_else before.order.state low));
                    zero = before.order.zero;
                    one = ap (λ (n : ℕ). bit_at n before.order.bit) (states_else before.order.state low) ∙ before.order.one;
                  };
                  early = inl low;
                }
                | inr here ↦ at_state before.order here.0 here.1
              ] where
                at_state : (order : TextsBefore others words) → order.state ≡ s → order.bit < i → AreBefore wider s (i + 1) others
                at_state order at below = record {
                  order = record {
                    state = s;
                    bit = order.bit;
                    states_before = λ u under. order.states_before u (omega (arith, under, at)) ∙ sym (states_else u under);
                    bits_before = λ c under. subst (λ (u : ℕ). bit_at (get_or others u 0) c ≡ bit_at (get_or words u 0) c) at (order.bits_before c under) ∙ sym (bits_else c (omega (arith, under, below)));
                    zero = subst (λ (u : ℕ). bit_at (get_or others u 0) order.bit ≡ 0) at order.zero;
                    one = bits_else order.bit below ∙ subst (λ (u : ℕ). bit_at (get_or words u 0) order.bit ≡ 1) at order.one;
                  };
                  early = inr (refl, omega (arith, below));
                }

    from_wider : (others : List ℕ) → AreBefore wider s (i + 1) others → AreSeen words s (i + 1) others
    from_wider others before =
        elim before.early [
          | inl low ↦ inl (record {
            order = record {
              state = before.order.state;
              bit = before.order.bit;
              states_before = λ u below. before.order.states_before u below ∙ states_else u (omega (arith, below, low));
              bits_before = λ c below. before.order.bits_before c below ∙ ap (λ (n : ℕ). bit_at n c) (states_else before.order.state low);
              zero = before.order.zero;
              one = sym (ap (λ (n : ℕ). bit_at n before.order.bit) (states_else before.order.state low)) ∙ before.order.one;
            };
            early = inl low;
          })
          | inr here ↦ at_state before.order here.0 here.1
        ] where
          at_state : (order : TextsBefore others wider) → order.state ≡ s → order.bit < i + 1 → AreSeen words s (i + 1) others
          at_state order at below =
              let zero : bit_at (get_or others s 0) order.bit ≡ 0 = subst (λ (u : ℕ). bit_at (get_or others u 0) order.bit ≡ 0) at order.zero in
              let one : bit_at (get_or wider s 0) order.bit ≡ 1 = subst (λ (u : ℕ). bit_at (get_or wider u 0) order.bit ≡ 1) at order.one in
              let same : (c : ℕ) → c < order.bit → bit_at (get_or others s 0) c ≡ bit_at (get_or words s 0) c = λ c under. subst (λ (u : ℕ). bit_at (get_or others u 0) c ≡ bit_at (get_or wider u 0) c) at (order.bits_before c under) ∙ bits_else c (omega (arith, under, below)) in
              let states : (u : ℕ) → u < s → get_or others u 0 ≡ get_or words u 0 = λ u under. order.states_before u (omega (arith, under, at)) ∙ states_else u under in
              elim (cases_eq order.bit i) [
                | inl there ↦ inr (record {
                  states = states;
                  bits = λ c under. elim (cases_eq c i) [
                    | inl at_bit ↦ subst (λ (d : ℕ). bit_at (get_or others s 0) d ≡ bit_at (get_or words s 0) d) (there ∙ sym at_bit) (zero ∙ sym (subst (λ (d : ℕ). bit_at (get_or words s 0) d ≡ 0) (sym there) blank))
                    | inr other ↦ same c (omega (arith, under, other, there))
                  ];
                })
                | inr other ↦
                    let low : order.bit < i = omega (arith, below, other) in
                    inl (record {
                      order = record { state = s; bit = order.bit; states_before = states; bits_before = same; zero = zero; one = sym (bits_else order.bit low) ∙ one };
                      early = inr (refl, omega (arith, below));
                    })
              ]

    pub seen_wider : (others : List ℕ) → AreSeen words s (i + 1) others ↔ AreBefore wider s (i + 1) others
    seen_wider others = (to_wider others, from_wider others)

    same_narrow : (others : List ℕ) → BeginSame wider s (i + 1) others → BeginSame words s i others
    same_narrow others same = record {
      states = λ u below. same.states u below ∙ states_else u below;
      bits = λ c below. same.bits c (omega (arith, below)) ∙ bits_else c below;
    }

    -- both branches together
    pub seen_both : (others : List ℕ) → AreSeen wider s (i + 1) others ↔ AreSeen words s i others
    seen_both others = (
      (λ seen. elim seen [
        | inl before ↦ elim (from_wider others before) [
          | inl old ↦ inl ((before_zero others).1 old)
          | inr same ↦ inr (record { states = same.states; bits = λ c below. same.bits c (omega (arith, below)) })
        ]
        | inr same ↦ inr (same_narrow others same)
      ]),
      (λ seen. elim seen [
        | inl before ↦ inl (to_wider others (inl ((before_zero others).0 before)))
        | inr same ↦ elim (zero_or_one (get_or others s 0) i) [
          | inl none ↦ inl (to_wider others (inr (record {
            states = same.states;
            bits = λ c below. elim (cases_eq c i) [
              | inl at ↦ subst (λ (d : ℕ). bit_at (get_or others s 0) d ≡ bit_at (get_or words s 0) d) (sym at) (none ∙ sym blank)
              | inr other ↦ same.bits c (omega (arith, below, other))
            ];
          })))
          | inr one ↦ inr (record {
            states = λ u below. same.states u below ∙ sym (states_else u below);
            bits = λ c below. elim (cases_eq c i) [
              | inl at ↦ subst (λ (d : ℕ). bit_at (get_or others s 0) d ≡ bit_at (get_or wider s 0) d) (sym at) (one ∙ sym bit_there)
              | inr other ↦ same.bits c (omega (arith, below, other)) ∙ sym (bits_else c (omega (arith, below, other)))
            ];
          })
        ]
      ]),
    )

module _ (n bits : ℕ) (words : List ℕ) (s : ℕ) (within : s < n) (size : length words ≡ n) (draft : IsDraft bits words s bits) where
  short : get_or words s 0 < 2 ^ bits
  short = short_from_bits (get_or words s 0) bits draft.begun

  -- a whole code is one more state
  pub before_next : (others : List ℕ) → AreBefore words s bits others ↔ AreBefore words (s + 1) 0 others
  before_next others = (
    (λ before. record { order = before.order; early = elim before.early [ inl low ↦ inl (omega (arith, low)) | inr here ↦ inl (omega (arith, here.0)) ] }),
    (λ before. record {
      order = before.order;
      early = elim before.early [
        | inl low ↦ elim (cases_eq before.order.state s) [
          | inl at ↦ inr (at, inside before.order at)
          | inr other ↦ inl (omega (arith, low, other))
        ]
        | inr here ↦ absurd (omega (arith, here.1))
      ];
    }),
  ) where
    inside : (order : TextsBefore others words) → order.state ≡ s → order.bit < bits
    inside order at =
        elim (cases_lt order.bit bits) [
          | inl below ↦ below
          | inr above ↦ absurd (omega (arith, draft.begun order.bit above, subst (λ (u : ℕ). bit_at (get_or words u 0) order.bit ≡ 1) at order.one))
        ]

  pub same_next : (others : List ℕ) → AreCodeWords n bits others → BeginSame words s bits others ↔ BeginSame words (s + 1) 0 others
  same_next others codes = (
    (λ same. record {
      states = λ u below. elim (cases_eq u s) [
        | inl at ↦ subst (λ (v : ℕ). get_or others v 0 ≡ get_or words v 0) (sym at) (same_from_bits_below bits (get_or others s 0) (get_or words s 0) (codes.short s within) short same.bits)
        | inr other ↦ same.states u (omega (arith, below, other))
      ];
      bits = λ c below. absurd (omega (arith, below));
    }),
    (λ same. record {
      states = λ u below. same.states u (omega (arith, below));
      bits = λ c below. ap (λ (m : ℕ). bit_at m c) (same.states s (omega arith));
    }),
  )

  -- no codes begin with one that is used
  pub none_used : IsUsed words s → (others : List ℕ) → AreCodeWords n bits others → BeginSame words s bits others → ⊥
  none_used used others codes same =
      let whole : BeginSame words (s + 1) 0 others = (same_next others codes).0 same in
      let at : used.0 ≡ s = codes.distinct used.0 s (omega (arith, used.1, within)) within (whole.states used.0 (omega (arith, used.1)) ∙ used.2 ∙ sym (whole.states s (omega arith))) in
      omega (arith, at, used.1)

-- codes of which all states are there
module _ (F : KissFile) (bits : ℕ) (words : List ℕ) (size : length F.states ≡ length words) (draft : IsDraft bits words (length words) 0) where
  pub whole : AreCodeWords (length words) bits words
  whole = record { count = refl; short = draft.short; distinct = draft.distinct }

  whole_here : AreCodeWords (length F.states) bits words
  whole_here = subst (λ (n : ℕ). AreCodeWords n bits words) (sym size) whole

  same_whole : (others : List ℕ) → AreCodeWords (length F.states) bits others → BeginSame words (length words) 0 others → others ≡ words
  same_whole others codes same = ext_get_or 0 others words (codes.count ∙ size) (λ u within. same.states u (omega (arith, within, codes.count, size)))

  pub judged_kept : (cost : ℕ) (old new : Option Best) → IsCost F words bits cost → Takes words cost old new ⊎ Stays cost old new → IsBestSeen F bits (AreBefore words (length words) 0) old → IsBestSeen F bits (AreSeen words (length words) 0) new
  judged_kept cost old new costs (inl takes) kept =
      subst (IsBestSeen F bits (AreSeen words (length words) 0)) (sym takes.is) (record {
        codes = subst (AreCodeWords (length F.states) bits) (sym takes.words_are) whole_here;
        seen = inr (record { states = λ u below. ap (λ (list : List ℕ). get_or list u 0) takes.words_are; bits = λ c below. absurd (omega (arith, below)) });
        cost = subst (λ (list : List ℕ). IsCost F list bits takes.best.cost) (sym takes.words_are) (subst (IsCost F words bits) (sym takes.cost_is) costs);
        least = λ others other codes seen of_others. elim seen [
          | inl before ↦ let below : cost < other = dearer old takes.less kept others other codes before of_others in omega (arith, below, takes.cost_is)
          | inr same ↦ omega (arith, takes.cost_is, cost_once F words bits cost other costs (subst (λ (list : List ℕ). IsCost F list bits other) (same_whole others codes same) of_others))
        ];
        first = λ others codes seen of_others. elim seen [
          | inl before ↦ let below : cost < takes.best.cost = dearer old takes.less kept others takes.best.cost codes before of_others in absurd (omega (arith, below, takes.cost_is))
          | inr same ↦ inl (same_whole others codes same ∙ sym takes.words_are)
        ];
      })
    where
      dearer : (old : Option Best) → IsLessThan cost old → IsBestSeen F bits (AreBefore words (length words) 0) old → (others : List ℕ) (other : ℕ) → AreCodeWords (length F.states) bits others → AreBefore words (length words) 0 others → IsCost F others bits other → cost < other
      dearer None less kept others other codes before of_others = absurd (kept others codes before)
      dearer (Some best) less kept others other codes before of_others = omega (arith, less, kept.least others other codes before of_others)
  judged_kept cost None new costs (inr stays) kept = absurd (stays.not_less tt)
  judged_kept cost (Some best) new costs (inr stays) kept =
      subst (IsBestSeen F bits (AreSeen words (length words) 0)) (sym stays.same) (record {
        codes = kept.codes;
        seen = inl kept.seen;
        cost = kept.cost;
        least = λ others other codes seen of_others. elim seen [
          | inl before ↦ kept.least others other codes before of_others
          | inr same ↦
              let equal : cost ≡ other = cost_once F words bits cost other costs (subst (λ (list : List ℕ). IsCost F list bits other) (same_whole others codes same) of_others) in
              elim (cases_lt cost best.cost) [
                | inl less ↦ absurd (stays.not_less less)
                | inr more ↦ omega (arith, more, equal)
              ]
        ];
        first = λ others codes seen of_others. elim seen [
          | inl before ↦ kept.first others codes before of_others
          | inr same ↦ inr (subst (TextsBefore best.words.items) (sym (same_whole others codes same)) kept.seen.order)
        ];
      })

-- what is kept, and the draft, as the search goes on
module _ (F : KissFile) (bits : ℕ) (words : List ℕ) (size : length F.states ≡ length words) (s : ℕ) (within : s < length words) (draft : IsDraft bits words s bits) where
  in_states : s < length F.states
  in_states = omega (arith, within, size)

  pub used_kept : IsUsed words s → (best : Option Best) → IsBestSeen F bits (AreBefore words s bits) best → IsBestSeen F bits (AreSeen words s bits) best
  used_kept used best =
      kept_same F bits (AreBefore words s bits) (AreSeen words s bits) (λ others codes. (
        (λ before. inl before),
        (λ seen. elim seen [ inl before ↦ before | inr same ↦ absurd (none_used (length F.states) bits words s in_states (sym size) draft used others codes same) ]),
      )) best

  pub kept_next : (best : Option Best) → IsBestSeen F bits (AreBefore words s bits) best → IsBestSeen F bits (AreBefore words (s + 1) 0) best
  kept_next best = kept_same F bits (AreBefore words s bits) (AreBefore words (s + 1) 0) (λ others codes. before_next (length F.states) bits words s in_states (sym size) draft others) best

  pub kept_back : (best : Option Best) → IsBestSeen F bits (AreSeen words (s + 1) 0) best → IsBestSeen F bits (AreSeen words s bits) best
  kept_back best =
      kept_same F bits (AreSeen words (s + 1) 0) (AreSeen words s bits) (λ others codes. (
        (λ seen. elim seen [
          | inl before ↦ inl ((before_next (length F.states) bits words s in_states (sym size) draft others).1 before)
          | inr same ↦ inr ((same_next (length F.states) bits words s in_states (sym size) draft others codes).1 same)
        ]),
        (λ seen. elim seen [
          | inl before ↦ inl ((before_next (length F.states) bits words s in_states (sym size) draft others).0 before)
          | inr same ↦ inr ((same_next (length F.states) bits words s in_states (sym size) draft others codes).0 same)
        ]),
      )) best

-- a code that no state before has is one state more
pub draft_next : (bits : ℕ) (words : List ℕ) (s : ℕ) → s < length words → IsDraft bits words s bits → (IsUsed words s → ⊥) → IsDraft bits words (s + 1) 0
draft_next bits words s within draft unused = record {
  state = omega (arith, within);
  bit = omega arith;
  short = λ u below. elim (cases_eq u s) [
    | inl at ↦ subst (λ (v : ℕ). get_or words v 0 < 2 ^ bits) (sym at) (short_from_bits (get_or words s 0) bits draft.begun)
    | inr other ↦ draft.short u (omega (arith, below, other))
  ];
  distinct = distinct;
  begun = λ c above. ap (λ (n : ℕ). bit_at n c) (draft.later (s + 1) (omega arith)) ∙ bit_at-zero c;
  later = λ u above. draft.later u (omega (arith, above));
} where
  distinct : (u v : ℕ) → u < s + 1 → v < s + 1 → get_or words u 0 ≡ get_or words v 0 → u ≡ v
  distinct u v in_u in_v same =
      elim (cases_eq u s) [
        | inl at_u ↦ elim (cases_eq v s) [
          | inl at_v ↦ omega (arith, at_u, at_v)
          | inr other_v ↦ absurd (unused (v, omega (arith, in_v, other_v), sym same ∙ ap (λ (w : ℕ). get_or words w 0) at_u))
        ]
        | inr other_u ↦ elim (cases_eq v s) [
          | inl at_v ↦ absurd (unused (u, omega (arith, in_u, other_u), same ∙ ap (λ (w : ℕ). get_or words w 0) at_v))
          | inr other_v ↦ draft.distinct u v (omega (arith, in_u, other_u)) (omega (arith, in_v, other_v)) same
        ]
      ]

-- a 0 is one bit more
pub draft_zero : (bits : ℕ) (words : List ℕ) (s i : ℕ) → i < bits → IsDraft bits words s i → IsDraft bits words s (i + 1)
draft_zero bits words s i below draft = record {
  state = draft.state;
  bit = omega (arith, below);
  short = draft.short;
  distinct = draft.distinct;
  begun = λ c above. draft.begun c (omega (arith, above));
  later = draft.later;
}

pub kept_zero : (F : KissFile) (bits : ℕ) (words : List ℕ) (s i : ℕ) → IsDraft bits words s i → (best : Option Best) → IsBestSeen F bits (AreBefore words s i) best → IsBestSeen F bits (AreBefore words s (i + 1)) best
kept_zero F bits words s i draft best = kept_same F bits (AreBefore words s i) (AreBefore words s (i + 1)) (λ others codes. before_zero words s i (draft.begun i (omega arith)) others) best

-- the words with bit i of state s
pub with_one : List ℕ → (s i : ℕ) → List ℕ
with_one words s i = set words s (bit_or (get_or words s 0) (1 * 2 ^ i % 2 ^ 64))

pub is_with_one : (words : List ℕ) (s i : ℕ) → with_one words s i ≡ set words s (bit_or (get_or words s 0) (1 * 2 ^ i % 2 ^ 64))
unfolding with_one
is_with_one words s i = refl

module _ (words : List ℕ) (s i : ℕ) (within : s < length words) (small : i < 64) where
  pub with_one_length : length (with_one words s i) ≡ length words
  unfolding with_one
  with_one_length = length-set words s (bit_or (get_or words s 0) (1 * 2 ^ i % 2 ^ 64))

  one_there : bit_at (get_or (with_one words s i) s 0) i ≡ 1
  unfolding with_one
  one_there = ap (λ (n : ℕ). bit_at n i) (get_or-set_same words s (bit_or (get_or words s 0) (1 * 2 ^ i % 2 ^ 64)) 0 within) ∙ bit_at_set_same w64 (get_or words s 0) i small

  bits_kept : (c : ℕ) → c ≢ i → bit_at (get_or (with_one words s i) s 0) c ≡ bit_at (get_or words s 0) c
  unfolding with_one
  bits_kept c other = ap (λ (n : ℕ). bit_at n c) (get_or-set_same words s (bit_or (get_or words s 0) (1 * 2 ^ i % 2 ^ 64)) 0 within) ∙ bit_at_set_other w64 (get_or words s 0) i small c other

  words_kept : (u : ℕ) → u ≢ s → get_or (with_one words s i) u 0 ≡ get_or words u 0
  unfolding with_one
  words_kept u other = get_or-set_other words s u (bit_or (get_or words s 0) (1 * 2 ^ i % 2 ^ 64)) 0 other

  pub draft_one : (bits : ℕ) → i < bits → IsDraft bits words s i → IsDraft bits (with_one words s i) s (i + 1)
  draft_one bits below draft = record {
    state = omega (arith, within, with_one_length);
    bit = omega (arith, below);
    short = λ u under. subst (λ (n : ℕ). n < 2 ^ bits) (sym (words_kept u (omega (arith, under)))) (draft.short u under);
    distinct = λ u v in_u in_v same. draft.distinct u v in_u in_v (sym (words_kept u (omega (arith, in_u))) ∙ same ∙ words_kept v (omega (arith, in_v)));
    begun = λ c above. bits_kept c (omega (arith, above)) ∙ draft.begun c (omega (arith, above));
    later = λ u above. words_kept u (omega (arith, above)) ∙ draft.later u above;
  }

  module _ (F : KissFile) (bits : ℕ) (draft : IsDraft bits words s i) (best : Option Best) where
    pub kept_one : IsBestSeen F bits (AreSeen words s (i + 1)) best → IsBestSeen F bits (AreBefore (with_one words s i) s (i + 1)) best
    kept_one =
        kept_same F bits (AreSeen words s (i + 1)) (AreBefore (with_one words s i) s (i + 1)) (λ others codes. seen_wider words s i (draft.begun i (omega arith)) (with_one words s i) one_there (λ c below. bits_kept c (omega (arith, below)))
        (λ u below. words_kept u (omega (arith, below))) others) best

    pub kept_both : IsBestSeen F bits (AreSeen (with_one words s i) s (i + 1)) best → IsBestSeen F bits (AreSeen words s i) best
    kept_both =
        kept_same F bits (AreSeen (with_one words s i) s (i + 1)) (AreSeen words s i) (λ others codes. seen_both words s i (draft.begun i (omega arith)) (with_one words s i) one_there (λ c below. bits_kept c (omega (arith, below)))
        (λ u below. words_kept u (omega (arith, below))) others) best

-- codes of which all states are there, whatever bit is next
module _ (F : KissFile) (bits : ℕ) (words : List ℕ) (size : length F.states ≡ length words) (s i : ℕ) (all : s ≡ length words) where
  past : (others : List ℕ) → length others ≡ length words → (c : ℕ) → bit_at (get_or others s 0) c ≡ 0
  past others same c = ap (λ (n : ℕ). bit_at n c) (get_or_past others s 0 (omega (arith, all, same))) ∙ bit_at-zero c

  pub draft_whole : IsDraft bits words s i → IsDraft bits words (length words) 0
  draft_whole draft = subst (λ (k : ℕ). IsDraft bits words k 0) all (record {
    state = draft.state;
    bit = omega arith;
    short = draft.short;
    distinct = draft.distinct;
    begun = λ c above. past words refl c;
    later = draft.later;
  })

  before_whole : (others : List ℕ) → AreBefore words s i others ↔ AreBefore words s 0 others
  before_whole others = (
    (λ before. record { order = before.order; early = elim before.early [ inl low ↦ inl low | inr here ↦ absurd (beyond before.order here.0) ] }),
    (λ before. record { order = before.order; early = elim before.early [ inl low ↦ inl low | inr here ↦ absurd (omega (arith, here.1)) ] }),
  ) where
    beyond : (order : TextsBefore others words) → order.state ≡ s → ⊥
    beyond order at =
        let one : bit_at (get_or words s 0) order.bit ≡ 1 = subst (λ (u : ℕ). bit_at (get_or words u 0) order.bit ≡ 1) at order.one in
        omega (arith, one, past words refl order.bit)

  pub whole_before : (best : Option Best) → IsBestSeen F bits (AreBefore words s i) best → IsBestSeen F bits (AreBefore words (length words) 0) best
  whole_before best kept =
      subst (λ (k : ℕ). IsBestSeen F bits (AreBefore words k 0) best) all (kept_same F bits (AreBefore words s i) (AreBefore words s 0) (λ others codes. before_whole others) best kept)

  pub whole_seen : (best : Option Best) → IsBestSeen F bits (AreSeen words (length words) 0) best → IsBestSeen F bits (AreSeen words s i) best
  whole_seen best kept =
      kept_same F bits (AreSeen words s 0) (AreSeen words s i) (λ others codes. (
        (λ seen. elim seen [
          | inl before ↦ inl ((before_whole others).1 before)
          | inr same ↦ inr (record { states = same.states; bits = λ c below. past others (codes.count ∙ size) c ∙ sym (past words refl c) })
        ]),
        (λ seen. elim seen [
          | inl before ↦ inl ((before_whole others).0 before)
          | inr same ↦ inr (record { states = same.states; bits = λ c below. absurd (omega (arith, below)) })
        ]),
      )) best (subst (λ (k : ℕ). IsBestSeen F bits (AreSeen words k 0) best) (sym all) kept)
