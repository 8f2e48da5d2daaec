-- Rounds of telling states apart, and what is left when a round changes nothing.
use Rattle.std.proofs.Common.{◌≡◌, ℕ, ◌<◌, ◌⊎◌, Bool, List, [], ◌∷◌, length, slice_index, refl, sym, ap, ◌∙◌, subst, inl, inr, arith}
use Rattle.std.proofs.lemmas.List.Elements.{All-head, All-tail}
use Rattle.cubes.specs.Symbol.{symbol_of}
use Rattle.cubes.specs.Laws.Numbers.{length-symbol_of}
use Rattle.kiss_file.specs.declared.file.KissFile.{KissFile}
use Rattle.kiss_file.specs.Machine.{answers, next, out}
use Rattle.partition.specs.Partition.{Le, Together}
use Rattle.state_reduce.specs.AlikeStates.{IsEquivalence, IsWord}
use Rattle.machine_table.specs.NextStates.{NeverLeaves}
use Rattle.state_reduce.specs.Laws.Alike.{alike_agree, alike_next, at_symbol}
use Rattle.state_reduce.specs.Inner.Refinement.{AgreeAlways, IsRound, StayTogether}
use Rattle.partition.specs.RelationBlocks.{IsSplitBy}

-- both relations are symmetric and transitive
pub agree_turned : (F : KissFile) (s t : ℕ) → AgreeAlways F s t → AgreeAlways F t s
agree_turned F s t agree x within = sym (agree x within)

pub agree_on : (F : KissFile) (s t u : ℕ) → AgreeAlways F s t → AgreeAlways F t u → AgreeAlways F s u
agree_on F s t u one two x within = one x within ∙ two x within

pub together_turned : (p : List ℕ) (s t : ℕ) → Together p s t → Together p t s
together_turned p s t held = (held.1, held.0, sym held.2)

together_on : (p : List ℕ) (s t u : ℕ) → Together p s t → Together p t u → Together p s u
together_on p s t u one two = (one.0, two.1, one.2 ∙ two.2)

pub stay_turned : (F : KissFile) (p : List ℕ) (s t : ℕ) → StayTogether F p s t → StayTogether F p t s
stay_turned F p s t stay = (together_turned p s t stay.0, λ x within. together_turned p _ _ (stay.1 x within))

pub stay_on : (F : KissFile) (p : List ℕ) (s t u : ℕ) → StayTogether F p s t → StayTogether F p t u → StayTogether F p s u
stay_on F p s t u one two = (together_on p s t u one.0 two.0, λ x within. together_on p _ _ _ (one.1 x within) (two.1 x within))

-- the first round
pub first_round : (F : KissFile) (p : List ℕ) → IsSplitBy (AgreeAlways F) (length F.states) p → IsRound F p
first_round F p split = record {
  lawful = split.lawful;
  agree = λ s t held. elim (split.related s t held) [
    | inl same ↦ subst (λ (u : ℕ). AgreeAlways F s u) same (λ x within. refl)
    | inr agree ↦ agree
  ];
  alike = λ s t in_s in_t alike. split.kept s t in_s in_t (alike_agree F s t alike);
}

-- one round more only tells more states apart
pub below_last : (F : KissFile) (p q : List ℕ) → length p ≡ length F.states → IsSplitBy (StayTogether F p) (length F.states) q → Le q p
below_last F p q size split s t held =
    elim (split.related s t held) [
      | inl same ↦
          let in_s : s < length q = held.0 in
          let in_t : t < length q = held.1 in
          (omega (arith, split.lawful.length), omega (arith, split.lawful.length), ap (λ (u : ℕ). slice_index p u) same)
      | inr stay ↦ stay.0
    ]

pub next_round : (F : KissFile) (p q : List ℕ) → NeverLeaves F → IsRound F p → IsSplitBy (StayTogether F p) (length F.states) q → IsRound F q
next_round F p q inside last split = record {
  lawful = split.lawful;
  agree = λ s t held. last.agree s t (below_last F p q last.lawful.length split s t held);
  alike = λ s t in_s in_t alike. split.kept s t in_s in_t (
    last.alike s t in_s in_t alike,
    λ x within. last.alike _ _ (inside s (symbol_of F.inputs x) in_s (length-symbol_of F.inputs x)) (inside t (symbol_of F.inputs x) in_t (length-symbol_of F.inputs x)) (alike_next F s t x alike),
  );
}

module _ (F : KissFile) (p q : List ℕ) (last : IsRound F p) (split : IsSplitBy (StayTogether F p) (length F.states) q) (stable : q ≡ p) where
  -- states that are together go to states that are, or are one
  goes : (s t : ℕ) (x : List Bool) → Together p s t → length x ≡ F.inputs → (s ≡ t) ⊎ Together p (next F s x) (next F t x)
  goes s t x held size =
      elim (split.related s t (subst (λ (r : List ℕ). Together r s t) (sym stable) held)) [
        | inl same ↦ inl same
        | inr stay ↦ inr (at_symbol F (λ y. Together p (next F s y) (next F t y)) x size stay.1)
      ]

  same_answers : (word : List (List Bool)) (s t : ℕ) → Together p s t → IsWord F.inputs word → answers F s word ≡ answers F t word
  same_answers [] s t held is = refl
  same_answers (x ∷ word) s t held is =
      let size = All-head (λ y. length y ≡ F.inputs) x word is in
      let outputs : out F s x ≡ out F t x = at_symbol F (λ y. out F s y ≡ out F t y) x size (last.agree s t held) in
      let rest : IsWord F.inputs word = All-tail (λ y. length y ≡ F.inputs) x word is in
      elim (goes s t x held size) [
        | inl same ↦ ap (λ (u : ℕ). answers F u (x ∷ word)) same
        | inr go ↦ let later : answers F (next F s x) word ≡ answers F (next F t x) word = same_answers word (next F s x) (next F t x) go rest in cc
      ]

  -- so the partition is that of alike states
  pub stable_is_equivalence : IsEquivalence F p
  stable_is_equivalence = record {
    lawful = last.lawful;
    together = λ s t in_s in_t. (λ held word is. same_answers word s t held is, λ alike. last.alike s t in_s in_t alike);
  }
