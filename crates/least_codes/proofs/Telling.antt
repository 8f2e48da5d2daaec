-- Sets of bits that tell states apart permit what gates give.
use Rattle.std.proofs.Common.{◌≡◌, ℕ, ◌<◌, Bool, List, length, get_or, inl, inr, ap, sym, arith}
use Rattle.std.proofs.lemmas.Bool.{cases_order}
use Rattle.std.proofs.lemmas.List.Elements.{All-contains}
use Rattle.kiss_file.specs.declared.file.KissFile.{KissFile}
use Rattle.dependence.specs.SufficientBits.{AgreeOn, PermitsValue}
use Rattle.least_codes.specs.declared.two_states.TwoStates.{TwoStates}
use Rattle.least_codes.specs.Inner.StatePairs.{AreToldApart, TellsApart}

-- a greater set tells apart what a smaller one does
pub tells_more : (words : List ℕ) (apart : List TwoStates) (R S : ℕ → Type 0) → ((c : ℕ) → R c → S c) → TellsApart words apart R → TellsApart words apart S
tells_more words apart R S more tells k d within agree = tells k d within (λ c is. agree c (more c is))

module _ (F : KissFile) (words : List ℕ) (value : ℕ → List Bool → Bool) (apart : List TwoStates) (are : AreToldApart F value apart) (R : ℕ → Type 0) where
  -- states that agree on the set give the same, the lower one first
  ordered : TellsApart words apart R → (s t : ℕ) → s < t → t < length F.states → AgreeOn words R s t → (x : List Bool) → length x ≡ F.inputs → value s x ≡ value t x
  ordered tells s t before in_t agree x size =
      elim (are.each s t before in_t) [
        | inl listed ↦ absurd (All-contains (λ (pair : TwoStates). AgreeOn words R pair.s pair.t → ⊥) apart (record { s = s; t = t }) tells listed agree)
        | inr same ↦ same x size
      ]

  pub permits_from_tells : TellsApart words apart R → PermitsValue F words R value
  permits_from_tells tells s t x in_s in_t agree size =
      elim (cases_order s t) [
        | inl at ↦ ap (λ (u : ℕ). value u x) at
        | inr two ↦ elim two [
          | inl before ↦ ordered tells s t before in_t agree x size
          | inr after ↦ sym (ordered tells t s after in_s (λ c is. sym (agree c is)) x size)
        ]
      ]

  pub tells_from_permits : PermitsValue F words R value → TellsApart words apart R
  tells_from_permits permits k d within agree =
      let pair : TwoStates = get_or apart k d in
      let lawful = are.lawful k d within in
      are.differ k d within (λ x size. permits pair.s pair.t x (omega (arith, lawful.0, lawful.1)) lawful.1 agree size)
