-- There is a least code, and a split that gives it.
use Rattle.std.proofs.Common.{◌≡◌, ◌⊎◌, ◌∙◌, ℕ, zero, suc, ◌+◌, ◌^◌, ◌<◌, ◌≤◌, List, [], ◌∷◌, Some, length, get_or, map, inl, inr, refl, ap, subst, sym, arith}
use Rattle.std.proofs.lemmas.Bool.{cases_eq, cases_lt, cases_order}
use Rattle.std.proofs.lemmas.List.{get_or-map, length-map}
use Rattle.std.proofs.lemmas.List.FromFn.{get_or-range_with_len, length-range_with_len}
use Rattle.std.proofs.lemmas.Option.{slice_get-get_or}
use Rattle.std.specs.Int.{bit_at}
use Rattle.std.specs.List.{range_with_len}
use Rattle.kiss_file.specs.declared.file.KissFile.{KissFile}
use Rattle.dependence.specs.SufficientBits.{next_value}
use Rattle.state_codes.specs.Code.{need}
use Rattle.state_codes.specs.Laws.Need.{need-enough}
use Rattle.least_codes.specs.Cost.{IsCost, IsLatchCost}
use Rattle.least_codes.specs.Inner.Costs.{AreCosts}
use Rattle.least_codes.specs.Inner.Parts.{AreBitLabels, bit_labels}
use Rattle.least_codes.specs.Laws.{LeastCodeExists, LeastCodeHasZeros, LeastSplitExists}
use Rattle.least_codes.specs.LeastCode.{AreCodeWords, IsLeastCode, TextsBefore}
use Rattle.least_codes.specs.LeastReads.{AreLeastReads}
use Rattle.least_codes.proofs.BitParts.{give_least_code, least_split, parts_here}
use Rattle.least_codes.specs.Laws.Chosen.{texts_apart}
use Rattle.least_codes.proofs.Costs.{cost_once, costs_all, costs_more, costs_none}
use Rattle.least_codes.proofs.Deciding.{Decided, all_decided}
use Rattle.least_codes.proofs.Halves.{some_one}
use Rattle.least_codes.proofs.Least.{numbers_are_codes}
use Rattle.least_codes.proofs.Pool.{In, all_lists, in_all}
use Rattle.least_codes.proofs.Reading.{all_bits_permit}
use Rattle.least_codes.proofs.Seeking.{least_reads_exist}
use Rattle.least_codes.proofs.Texts.{texts_total, texts_transitive}
use Rattle.least_codes.proofs.Turning.{before_nonzero, cost_alike, turned, turned_alike, turned_at, turned_codes, xor_itself}

below_decided : (a b : ℕ) → Decided (a < b)
below_decided a b = elim (cases_lt a b) [ inl less ↦ inl less | inr more ↦ inr (λ less. omega (arith, less, more)) ]

distinct_decided : (words : List ℕ) (s t : ℕ) → Decided (get_or words s 0 ≡ get_or words t 0 → s ≡ t)
distinct_decided words s t =
    elim (cases_eq s t) [
      | inl at ↦ inl (λ same. at)
      | inr apart ↦ elim (cases_eq (get_or words s 0) (get_or words t 0)) [
        | inl same ↦ inr (λ distinct. apart (distinct same))
        | inr other ↦ inl (λ same. absurd (other same))
      ]
    ]

codes_decided : (n bits : ℕ) (words : List ℕ) → Decided (AreCodeWords n bits words)
codes_decided n bits words =
    elim (cases_eq (length words) n) [
      | inr other ↦ inr (λ codes. other codes.count)
      | inl count ↦ elim (all_decided (λ s. get_or words s 0 < 2 ^ bits) (λ s. below_decided (get_or words s 0) (2 ^ bits)) n) [
        | inr long ↦ inr (λ codes. long codes.short)
        | inl short ↦ elim (all_decided (λ s. (t : ℕ) → t < n → get_or words s 0 ≡ get_or words t 0 → s ≡ t) (λ s. all_decided (λ t. get_or words s 0 ≡ get_or words t 0 → s ≡ t) (distinct_decided words s) n) n) [
          | inr alike ↦ inr (λ codes. alike (λ s in_s t in_t same. codes.distinct s t in_s in_t same))
          | inl distinct ↦ inl (record { count = count; short = short; distinct = λ s t in_s in_t same. distinct s in_s t in_t same })
        ]
      ]
    ]

module _ (F : KissFile) (bits : ℕ) where
  costs_exist : (words : List ℕ) → AreCodeWords (length F.states) bits words → (i : ℕ) → (cost : ℕ) × AreCosts F words bits i cost
  costs_exist words codes zero = (0, costs_none F words bits)
  costs_exist words codes (suc i) =
      let before : (cost : ℕ) × AreCosts F words bits i cost = costs_exist words codes i in
      let least : (reads : List ℕ) × AreLeastReads F words (λ c. c < bits) (next_value F words i) reads = least_reads_exist (λ c. c < bits) (λ c. below_decided c bits) bits (λ c is. is) F words (next_value F words i) (all_bits_permit F words bits (next_value F words i) codes) in
      let here : IsLatchCost F words bits i (length least.0) = record { reads = least.0; fewest = least.1.fewest; size = refl } in
      (before.0 + length least.0, subst (λ (k : ℕ). AreCosts F words bits k (before.0 + length least.0)) (omega arith) (costs_more F words bits i before.0 (length least.0) before.1 here))

  cost_exists : (words : List ℕ) → AreCodeWords (length F.states) bits words → (cost : ℕ) × IsCost F words bits cost
  cost_exists words codes =
      let all : (cost : ℕ) × AreCosts F words bits bits cost = costs_exist words codes bits in
      (all.0, costs_all F words bits bits all.0 refl all.1)

  -- of some lists, the codes that cost least and have the first texts
  record BestOf (pool : List (List ℕ)) : Type 0 where
    words : List ℕ
    codes : AreCodeWords (length F.states) bits words
    cost : ℕ
    costs : IsCost F words bits cost
    least : (others : List ℕ) (other : ℕ) → In pool others → AreCodeWords (length F.states) bits others → IsCost F others bits other → cost ≤ other
    first : (others : List ℕ) → In pool others → AreCodeWords (length F.states) bits others → IsCost F others bits cost → (others ≡ words) ⊎ TextsBefore words others

  abbrev NoneOf : List (List ℕ) → Type 0
  NoneOf pool = (others : List ℕ) → In pool others → AreCodeWords (length F.states) bits others → ⊥

  -- the best of the rest stays so
  stays : (here : List ℕ) (rest : List (List ℕ)) → (best : BestOf rest)
      → ((cost : ℕ) → AreCodeWords (length F.states) bits here → IsCost F here bits cost → (best.cost ≤ cost) × (cost ≡ best.cost → (here ≡ best.words) ⊎ TextsBefore best.words here)) → BestOf (here ∷ rest)
  stays here rest best no_better = record {
    words = best.words;
    codes = best.codes;
    cost = best.cost;
    costs = best.costs;
    least = λ others other is codes cost. elim is [
      | inl at ↦ (no_better other (subst (AreCodeWords (length F.states) bits) (sym at) codes) (subst (λ (list : List ℕ). IsCost F list bits other) (sym at) cost)).0
      | inr later ↦ best.least others other later codes cost
    ];
    first = λ others is codes cost. elim is [
      | inl at ↦ subst (λ (list : List ℕ). (list ≡ best.words) ⊎ TextsBefore best.words list) at ((no_better best.cost (subst (AreCodeWords (length F.states) bits) (sym at) codes) (subst (λ (list : List ℕ). IsCost F list bits best.cost) (sym at) cost)).1 refl)
      | inr later ↦ best.first others later codes cost
    ];
  }

  -- or codes ahead of the rest are better
  takes : (here : List ℕ) (rest : List (List ℕ)) (codes : AreCodeWords (length F.states) bits here) (cost : ℕ) → IsCost F here bits cost
      → ((others : List ℕ) (other : ℕ) → In rest others → AreCodeWords (length F.states) bits others → IsCost F others bits other → (cost ≤ other) × (other ≡ cost → (others ≡ here) ⊎ TextsBefore here others)) → BestOf (here ∷ rest)
  takes here rest codes cost costs better = record {
    words = here;
    codes = codes;
    cost = cost;
    costs = costs;
    least = λ others other is codes_too cost_too. elim is [
      | inl at ↦ omega (arith, cost_once F here bits cost other costs (subst (λ (list : List ℕ). IsCost F list bits other) (sym at) cost_too))
      | inr later ↦ (better others other later codes_too cost_too).0
    ];
    first = λ others is codes_too cost_too. elim is [
      | inl at ↦ inl (sym at)
      | inr later ↦ (better others cost later codes_too cost_too).1 refl
    ];
  }

  -- the better of codes and the best of the rest
  better_of : (here : List ℕ) (rest : List (List ℕ)) → AreCodeWords (length F.states) bits here → BestOf rest → BestOf (here ∷ rest)
  better_of here rest codes best =
      let cost : (cost : ℕ) × IsCost F here bits cost = cost_exists here codes in
      elim (cases_order cost.0 best.cost) [
        | inl even ↦ elim (texts_total (length F.states) bits best.words here best.codes codes) [
          | inl same ↦ stays here rest best (λ other codes_too cost_too. (omega (arith, even, cost_once F here bits cost.0 other cost.1 cost_too), λ is. inl (sym same)))
          | inr apart ↦ elim apart [
            | inl after ↦ stays here rest best (λ other codes_too cost_too. (omega (arith, even, cost_once F here bits cost.0 other cost.1 cost_too), λ is. inr after))
            | inr before ↦ takes here rest codes cost.0 cost.1 (λ others other is codes_too cost_too. (
              omega (arith, even, best.least others other is codes_too cost_too),
              λ same. elim (best.first others is codes_too (subst (IsCost F others bits) (same ∙ even) cost_too)) [
                | inl equal ↦ inr (subst (TextsBefore here) (sym equal) before)
                | inr later ↦ inr (texts_transitive here best.words others before later)
              ],
            ))
          ]
        ]
        | inr apart ↦ elim apart [
          | inl less ↦ takes here rest codes cost.0 cost.1 (λ others other is codes_too cost_too. (
            omega (arith, less, best.least others other is codes_too cost_too),
            λ same. absurd (omega (arith, less, same, best.least others other is codes_too cost_too)),
          ))
          | inr more ↦ stays here rest best (λ other codes_too cost_too. (
            omega (arith, more, cost_once F here bits cost.0 other cost.1 cost_too),
            λ same. absurd (omega (arith, more, same, cost_once F here bits cost.0 other cost.1 cost_too)),
          ))
        ]
      ]

  best_of : (pool : List (List ℕ)) → BestOf pool ⊎ NoneOf pool
  best_of [] = inr (λ others is codes. is)
  best_of (here ∷ rest) =
      elim (codes_decided (length F.states) bits here) [
        | inl codes ↦ elim (best_of rest) [
          | inl best ↦ inl (better_of here rest codes best)
          | inr none ↦
              let cost : (cost : ℕ) × IsCost F here bits cost = cost_exists here codes in
              inl (takes here rest codes cost.0 cost.1 (λ others other is codes_too cost_too. absurd (none others is codes_too)))
        ]
        | inr not ↦ elim (best_of rest) [
          | inl best ↦ inl (stays here rest best (λ cost codes costs. absurd (not codes)))
          | inr none ↦ inr (λ others is codes. elim is [ inl at ↦ not (subst (AreCodeWords (length F.states) bits) (sym at) codes) | inr later ↦ none others later codes ])
        ]
      ]

pub least_code_exists : LeastCodeExists
least_code_exists F =
    elim (best_of F (need (length F.states)) pool) [
      | inl best ↦ (
        best.words,
        record {
          codes = best.codes;
          cost = best.cost;
          costs = best.costs;
          least = λ others other codes cost. best.least others other (among others codes) codes cost;
          first = λ others codes cost. best.first others (among others codes) codes cost;
        },
      )
      | inr none ↦ absurd (none (range_with_len 0 (length F.states)) (among (range_with_len 0 (length F.states)) numbers) numbers)
    ]
  where
    pool : List (List ℕ)
    pool = all_lists (2 ^ need (length F.states)) (length F.states)

    among : (others : List ℕ) → AreCodeWords (length F.states) (need (length F.states)) others → In (all_lists (2 ^ need (length F.states)) (length F.states)) others
    among others codes = in_all (2 ^ need (length F.states)) (length F.states) others codes.count codes.short

    numbers : AreCodeWords (length F.states) (need (length F.states)) (range_with_len 0 (length F.states))
    numbers = numbers_are_codes (length F.states) (need (length F.states)) (need-enough (length F.states))

-- codes that begin with another word are turned over to ones that begin with zeros
pub least_code_has_zeros : LeastCodeHasZeros
least_code_has_zeros F words stays some least =
    elim (cases_eq (get_or words 0 0) 0) [
      | inl none ↦ none
      | inr other ↦ elim (least.first (turned mask words) codes (cost_alike F stays words (turned mask words) (need (length F.states)) least.cost (turned_alike (length F.states) words least.codes.count mask) least.costs)) [
        | inl same ↦ ap (λ (list : List ℕ). get_or list 0 0) (sym same) ∙ zeros
        | inr before ↦ absurd (texts_apart words (turned mask words) before (before_nonzero (need (length F.states)) (turned mask words) words zeros (least.codes.short 0 some) other))
      ]
    ]
  where
    mask : ℕ
    mask = get_or words 0 0

    zeros : get_or (turned (get_or words 0 0) words) 0 0 ≡ 0
    zeros = turned_at (length F.states) words least.codes.count (get_or words 0 0) 0 some ∙ xor_itself (get_or words 0 0)

    codes : AreCodeWords (length F.states) (need (length F.states)) (turned (get_or words 0 0) words)
    codes = turned_codes (length F.states) words least.codes.count (get_or words 0 0) (need (length F.states)) (least.codes.short 0 some) least.codes

-- the labels by each of the first bits
labels_of : ℕ → List ℕ → List (List ℕ)
labels_of bits words = map (λ i. bit_labels i words) (range_with_len 0 bits)

are_labels : (bits : ℕ) (words : List ℕ) → AreBitLabels bits words (labels_of bits words)
unfolding labels_of
are_labels bits words = record {
  count = length-map (range_with_len 0 bits) (λ i. bit_labels i words) ∙ length-range_with_len 0 bits;
  each = λ i below.
      let within : i < length (range_with_len 0 bits) = omega (arith, below, length-range_with_len 0 bits) in
      let number : get_or (range_with_len 0 bits) i 0 ≡ i = get_or-range_with_len 0 bits i 0 below ∙ omega arith in
      slice_get-get_or (map (λ i. bit_labels i words) (range_with_len 0 bits)) i [] (omega (arith, within, length-map (range_with_len 0 bits) (λ i. bit_labels i words)))
      ∙ ap Some (get_or-map (λ i. bit_labels i words) (range_with_len 0 bits) i 0 [] within ∙ ap (λ (k : ℕ). bit_labels k words) number);
}

pub least_split_exists : LeastSplitExists
least_split_exists F stays some most =
    let n : ℕ = length F.states in
    let code : (words : List ℕ) × IsLeastCode F words = least_code_exists F in
    let zeros : get_or code.0 0 0 ≡ 0 = least_code_has_zeros F code.0 stays (omega (arith, some)) code.1 in
    let ones : (i : ℕ) → i < need n → (s : ℕ) × (s < n) × (bit_at (get_or code.0 s 0) i ≡ 1) = λ i below. some_one n code.0 i code.1.codes below in
    let labels : AreBitLabels (need n) code.0 (labels_of (need n) code.0) = are_labels (need n) code.0 in
    let any : 0 < need n = elim (cases_eq (need n) 0) [
      | inl none ↦ absurd (omega (arith, some, need-enough n, ap (λ (b : ℕ). 2 ^ b) none))
      | inr other ↦ omega (arith, other)
    ] in (
      parts_here n (need n) code.0 (labels_of (need n) code.0) (omega (arith, some), omega (arith, most)) code.1.codes labels zeros ones,
      least_split n (need n) code.0 (labels_of (need n) code.0) (omega (arith, some), omega (arith, most)) code.1.codes labels zeros ones any,
      give_least_code n (need n) code.0 (labels_of (need n) code.0) (omega (arith, some), omega (arith, most)) code.1.codes labels zeros ones F refl refl code.1,
    )
