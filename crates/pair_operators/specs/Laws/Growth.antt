-- What one pass of growth gives, for any generators of two states, and any condition that smaller partitions
-- meet too.
use Rattle.std.proofs.Common.{◌≡◌, ℕ, ◌+◌, ◌-◌, ◌<◌, ◌≤◌, ◌⊎◌, inl, inr, Contains, List, [], ◌∷◌, ◌++◌, map, refl, sym, ap, ◌∙◌, subst, arith}
use Rattle.std.specs.List.{flat_map, range_with_len}
use Rattle.std.proofs.lemmas.List.{append-nil, map-id}
use Rattle.std.proofs.lemmas.List.Concat.{flat_map-append}
use Rattle.std.proofs.lemmas.List.FromFn.{length-range_with_len, get_or-range_with_len, length-map-range_with_len, get_or-map-range_with_len, map-range_with_len_more}
use Rattle.std.proofs.lemmas.List.Elements.{Contains-push_cases, Contains-append_left, Contains-append_right, Contains-append_cases}
use Rattle.partition.specs.Partition.{IsPartition, Together, Le}
use Rattle.partition.specs.MeetAndJoin.{IsJoin, IsLeastAbove}
use Rattle.partition.specs.Laws.Chains.{join_is_least}
use Rattle.partition.specs.Laws.Joins.{joins_are_one}
use Rattle.partition.specs.Laws.World.{join_fits}
use Rattle.pair_operators.specs.Growth.{GrowsOver, IsGrowth, NoneFits, TakesPair, pairs_from, pairs_of}

-- growth over one list of pairs and then over another is growth over both lists
pub grows_on : (G : ℕ → ℕ → List ℕ → Type 0) (Meets : List ℕ → Type 0) (p q r : List ℕ) (pairs more : List (ℕ × ℕ)) → GrowsOver G Meets p pairs q → GrowsOver G Meets q more r → GrowsOver G Meets p (pairs ++ more) r
grows_on G Meets p q r [] more here on = subst (λ (x : List ℕ). GrowsOver G Meets x more r) (sym here) on
grows_on G Meets p q r ((s, t) ∷ pairs) more (next, takes, rest) on = (next, takes, grows_on G Meets next q r pairs more rest on)

pub grows_once : (G : ℕ → ℕ → List ℕ → Type 0) (Meets : List ℕ → Type 0) (p q r : List ℕ) (pairs : List (ℕ × ℕ)) (s t : ℕ) → GrowsOver G Meets p pairs q → TakesPair G Meets q s t r → GrowsOver G Meets p (pairs ++ (s, t) ∷ []) r
grows_once G Meets p q r pairs s t so_far takes = grows_on G Meets p q r pairs ((s, t) ∷ []) so_far (r, takes, refl)

-- the pair of two states is among the pairs
contains_from : (n s t : ℕ) → s < t → t < n → Contains {X = ℕ × ℕ} (pairs_from n s) (s, t)
contains_from n s t order within =
    let f : ℕ → ℕ × ℕ = λ u. (s, u) in (
      t - (s + 1),
      omega (arith, length-map-range_with_len f (s + 1) (n - (s + 1))),
      get_or-map-range_with_len f (s + 1) (n - (s + 1)) (t - (s + 1)) t (s, t) (omega arith) (omega arith),
    )

contains_flat : (f : ℕ → List (ℕ × ℕ)) (xs : List ℕ) (x : ℕ) (pair : ℕ × ℕ) → Contains xs x → Contains (f x) pair → Contains (flat_map f xs) pair
contains_flat f [] x pair (k, within, read) among = absurd (omega arith)
contains_flat f (y ∷ xs) x pair among_xs among =
    elim (Contains-append_cases (y ∷ []) xs x among_xs) [
      | inl head ↦ elim (Contains-push_cases [] y x head) [
        | inl none ↦ absurd (omega (arith, none.1))
        | inr same ↦ Contains-append_left (f y) (flat_map f xs) pair (subst (λ (u : ℕ). Contains (f u) pair) (sym same) among)
      ]
      | inr tail ↦ Contains-append_right (f y) (flat_map f xs) pair (contains_flat f xs x pair tail among)
    ]

pub contains_pair : (n s t : ℕ) → s < t → t < n → Contains {X = ℕ × ℕ} (pairs_of n) (s, t)
contains_pair n s t order within =
    contains_flat (pairs_from n) (range_with_len 0 n) s (s, t)
    (s, omega (arith, length-range_with_len 0 n), get_or-range_with_len 0 n s s (omega arith) ∙ omega arith)
    (contains_from n s t order within)

-- the pairs of s with the states above it and below t
abbrev pub first_pairs : ℕ → ℕ → List (ℕ × ℕ)
first_pairs s t = map (λ u. (s, u)) (range_with_len (s + 1) (t - (s + 1)))

first_pairs_more : (s t : ℕ) → s + 1 ≤ t → first_pairs s (t + 1) ≡ first_pairs s t ++ (s, t) ∷ []
first_pairs_more s t order =
    let more : (t + 1) - (s + 1) ≡ (t - (s + 1)) + 1 = omega arith in
    let f : ℕ → ℕ × ℕ = λ u. (s, u) in
    ap (λ (n : ℕ). map f (range_with_len (s + 1) n)) more ∙ map-range_with_len_more f (s + 1) (t - (s + 1)) t (omega arith)

-- growth over one more pair
pub pair_taken : (n : ℕ) (G : ℕ → ℕ → List ℕ → Type 0) (Meets : List ℕ → Type 0) (start p : List ℕ) (s t : ℕ) (generator joined next : List ℕ) → IsPartition n p →
    GrowsOver G Meets start (first_pairs s t) p → G s t generator → IsJoin p generator joined →
    (Meets joined × (next ≡ joined)) ⊎ ((Meets joined → ⊥) × (next ≡ p)) → s + 1 ≤ t →
    IsPartition n next × GrowsOver G Meets start (first_pairs s (t + 1)) next
pair_taken n G Meets start p s t generator joined next lawful so_far generates is taken order = (
  elim taken [
    | inl (met, same) ↦ subst (IsPartition n) (sym same) (join_fits n p generator joined lawful is)
    | inr (refused, same) ↦ subst (IsPartition n) (sym same) lawful
  ],
  subst (λ (pairs : List (ℕ × ℕ)). GrowsOver G Meets start pairs next) (sym (first_pairs_more s t order))
      (grows_once G Meets start p next (first_pairs s t) s t so_far (record { generator = generator; generates = generates; joined = joined; joins = is; taken = taken })),
)

rows_more : (n s : ℕ) → flat_map (pairs_from n) (range_with_len 0 (s + 1)) ≡ flat_map (pairs_from n) (range_with_len 0 s) ++ pairs_from n s
rows_more n s =
    let one : range_with_len 0 (s + 1) ≡ range_with_len 0 s ++ s ∷ [] =
    sym (map-id (range_with_len 0 (s + 1))) ∙ map-range_with_len_more (λ (u : ℕ). u) 0 s s (omega arith) ∙ ap (λ (xs : List ℕ). xs ++ s ∷ []) (map-id (range_with_len 0 s)) in
    ap (flat_map (pairs_from n)) one ∙ flat_map-append (pairs_from n) (range_with_len 0 s) (s ∷ []) ∙ ap (λ (xs : List (ℕ × ℕ)). flat_map (pairs_from n) (range_with_len 0 s) ++ xs) (append-nil (pairs_from n s))

-- growth over the pairs of one more state
pub row_taken : (n : ℕ) (G : ℕ → ℕ → List ℕ → Type 0) (Meets : List ℕ → Type 0) (start p q : List ℕ) (s : ℕ) → GrowsOver G Meets start (flat_map (pairs_from n) (range_with_len 0 s)) p →
    GrowsOver G Meets p (pairs_from n s) q → GrowsOver G Meets start (flat_map (pairs_from n) (range_with_len 0 (s + 1))) q
row_taken n G Meets start p q s so_far row =
    subst (λ (pairs : List (ℕ × ℕ)). GrowsOver G Meets start pairs q) (sym (rows_more n s))
    (grows_on G Meets start p q (flat_map (pairs_from n) (range_with_len 0 s)) (pairs_from n s) so_far row)

module _ (n : ℕ) (G : ℕ → ℕ → List ℕ → Type 0) (Meets : List ℕ → Type 0) where
  -- growth keeps what joins with generators keep
  pub grown_keeps : (P : List ℕ → Type 0) → ((p : List ℕ) (s t : ℕ) (g joined : List ℕ) → P p → G s t g → IsJoin p g joined → P joined) →
      (start last : List ℕ) (pairs : List (ℕ × ℕ)) → P start → GrowsOver G Meets start pairs last → P last
  grown_keeps P keeps start last [] has here = subst P here has
  grown_keeps P keeps start last ((s, t) ∷ pairs) has (next, takes, rest) =
      let has_next : P next = elim takes.taken [
        | inl (met, same) ↦ subst P (sym same) (keeps start s t takes.generator takes.joined has takes.generates takes.joins)
        | inr (refused, same) ↦ subst P (sym same) has
      ] in
      grown_keeps P keeps next last pairs has_next rest

  pub grown_meets : (start last : List ℕ) (pairs : List (ℕ × ℕ)) → Meets start → GrowsOver G Meets start pairs last → Meets last
  grown_meets start last [] met here = subst Meets here met
  grown_meets start last ((s, t) ∷ pairs) met (next, takes, rest) =
      let next_met : Meets next = elim takes.taken [
        | inl (joined_met, same) ↦ subst Meets (sym same) joined_met
        | inr (refused, same) ↦ subst Meets (sym same) met
      ] in
      grown_meets next last pairs next_met rest

  -- where no partition meets the condition, growth changes nothing
  pub grown_nothing : ((p : List ℕ) → IsPartition n p → Meets p → ⊥) → (start last : List ℕ) (pairs : List (ℕ × ℕ)) → IsPartition n start → GrowsOver G Meets start pairs last → last ≡ start
  grown_nothing never start last [] lawful here = sym here
  grown_nothing never start last ((s, t) ∷ pairs) lawful (next, takes, rest) =
      let stays : next ≡ start = elim takes.taken [
        | inl (met, same) ↦ absurd (never takes.joined (join_fits n start takes.generator takes.joined lawful takes.joins) met)
        | inr (refused, same) ↦ same
      ] in
      grown_nothing never next last pairs (subst (IsPartition n) (sym stays) lawful) rest ∙ stays

  module _ (fit : (s t : ℕ) (g : List ℕ) → G s t g → IsPartition n g) where
    join_above : (p : List ℕ) (s t : ℕ) (g joined : List ℕ) → IsPartition n p → G s t g → IsJoin p g joined → IsLeastAbove p g joined
    join_above p s t g joined lawful generates joins = join_is_least p g joined ((fit s t g generates).length ∙ sym lawful.length) joins

    next_lawful : (p : List ℕ) (s t : ℕ) (next : List ℕ) → IsPartition n p → TakesPair G Meets p s t next → IsPartition n next
    next_lawful p s t next lawful takes = elim takes.taken [
      | inl (met, same) ↦ subst (IsPartition n) (sym same) (join_fits n p takes.generator takes.joined lawful takes.joins)
      | inr (refused, same) ↦ subst (IsPartition n) (sym same) lawful
    ]

    next_above : (p : List ℕ) (s t : ℕ) (next : List ℕ) → IsPartition n p → TakesPair G Meets p s t next → Le p next
    next_above p s t next lawful takes = elim takes.taken [
      | inl (met, same) ↦ subst (Le p) (sym same) (join_above p s t takes.generator takes.joined lawful takes.generates takes.joins).left
      | inr (refused, same) ↦ subst (Le p) (sym same) (λ u v held. held)
    ]

    -- the grown partition is above the start
    pub grown_above : (start last : List ℕ) (pairs : List (ℕ × ℕ)) → IsPartition n start → GrowsOver G Meets start pairs last → Le start last
    grown_above start last [] lawful here = subst (Le start) here (λ u v held. held)
    grown_above start last ((s, t) ∷ pairs) lawful (next, takes, rest) =
        let on = grown_above next last pairs (next_lawful start s t next lawful takes) rest in
        let one = next_above start s t next lawful takes in
        λ u v held. on u v (one u v held)

    module _ (down : (p q : List ℕ) → IsPartition n p → IsPartition n q → Le q p → Meets p → Meets q) where
      -- the generator of the two states is below the last partition, if a partition above both meets the
      -- condition
      abbrev IsCovered : List ℕ → (s t : ℕ) → Type 0
      IsCovered last s t = (g : List ℕ) × G s t g × ((q : List ℕ) → IsPartition n q → Le last q → Le g q → Meets q → Le g last)

      covered_here : (p last : List ℕ) (s t : ℕ) (next : List ℕ) → IsPartition n p → TakesPair G Meets p s t next → Le next last → IsCovered last s t
      covered_here p last s t next lawful takes on = (
        takes.generator,
        takes.generates,
        (λ q q_lawful above generator_above met.
            let least = join_above p s t takes.generator takes.joined lawful takes.generates takes.joins in
            elim takes.taken [
              | inl (joined_met, same) ↦ (λ u v held. on u v (subst (λ (x : List ℕ). Together x u v) (sym same) (least.right u v held)))
              | inr (refused, same) ↦
                  let p_on : Le p q = λ u v held. above u v (on u v (subst (λ (x : List ℕ). Together x u v) (sym same) held)) in
                  absurd (refused (down q takes.joined q_lawful (join_fits n p takes.generator takes.joined lawful takes.joins) (least.least q (subst (λ (k : ℕ). IsPartition k q) (sym lawful.length) q_lawful) p_on generator_above) met))
            ]),
      )

      covered : (p last : List ℕ) (pairs : List (ℕ × ℕ)) → IsPartition n p → GrowsOver G Meets p pairs last → (s t : ℕ) → Contains {X = ℕ × ℕ} pairs (s, t) → IsCovered last s t
      covered p last [] lawful here s t (k, within, read) = absurd (omega arith)
      covered p last ((a, b) ∷ pairs) lawful (next, takes, rest) s t among =
          let next_fits = next_lawful p a b next lawful takes in
          elim (Contains-append_cases {X = ℕ × ℕ} ((a, b) ∷ []) pairs (s, t) among) [
            | inl head ↦ elim (Contains-push_cases {X = ℕ × ℕ} [] (a, b) (s, t) head) [
              | inl none ↦ absurd (omega (arith, none.1))
              | inr same ↦ subst (λ (pair : ℕ × ℕ). IsCovered last pair.0 pair.1) same (covered_here p last a b next lawful takes (grown_above next last pairs next_fits rest))
            ]
            | inr tail ↦ covered next last pairs next_fits rest s t tail
          ]

      -- no other generator can be joined to the grown partition under the condition
      pub growth_is_full : (start last : List ℕ) → IsPartition n start → IsGrowth G Meets n start last → NoneFits n G Meets last
      growth_is_full start last lawful growth s t order within =
          covered start last (pairs_of n) lawful growth s t (contains_pair n s t order within)

-- where each two states have only one generator, growth has only one result
module _ (G : ℕ → ℕ → List ℕ → Type 0) (Meets : List ℕ → Type 0) (once : (s t : ℕ) (g h : List ℕ) → G s t g → G s t h → g ≡ h) where
  taken_once : (p : List ℕ) (s t : ℕ) (next other : List ℕ) → TakesPair G Meets p s t next → TakesPair G Meets p s t other → next ≡ other
  taken_once p s t next other one two =
      let generator : one.generator ≡ two.generator = once s t one.generator two.generator one.generates two.generates in
      let joined : one.joined ≡ two.joined = joins_are_one p two.generator one.joined two.joined (subst (λ (g : List ℕ). IsJoin p g one.joined) generator one.joins) two.joins in
      elim one.taken [
        | inl (met, is) ↦ elim two.taken [
          | inl (other_met, other_is) ↦ is ∙ joined ∙ sym other_is
          | inr (refused, other_is) ↦ absurd (refused (subst Meets joined met))
        ]
        | inr (refused, is) ↦ elim two.taken [
          | inl (other_met, other_is) ↦ absurd (refused (subst Meets (sym joined) other_met))
          | inr (other_refused, other_is) ↦ is ∙ sym other_is
        ]
      ]

  pub grown_once : (p last other : List ℕ) (pairs : List (ℕ × ℕ)) → GrowsOver G Meets p pairs last → GrowsOver G Meets p pairs other → last ≡ other
  grown_once p last other [] here there = sym here ∙ there
  grown_once p last other ((s, t) ∷ pairs) (next, takes, rest) (second, takes_second, rest_second) =
      grown_once second last other pairs (subst (λ (q : List ℕ). GrowsOver G Meets q pairs last) (taken_once p s t next second takes takes_second) rest) rest_second
