-- The effects of the inputs at some states, state by state.
use Rattle.std.proofs.Common.{◌≡◌, ℕ, ◌+◌, inl, inr, Contains, List, length, sym, ◌∙◌, subst, arith}
use Rattle.std.proofs.lemmas.Bool.{cases_eq}
use Rattle.dependence.specs.declared.bit.Bit.{Bit}
use Rattle.dependence.specs.declared.bit.Bit.TheVariants.{Output}
use Rattle.dependence.specs.declared.effects.Effect.{Effect}
use Rattle.dependence.specs.Effects.{ActsBy, AddsState, MattersAt}
use Rattle.dependence.specs.SufficientBits.{output_value}
use Rattle.kiss_file.specs.declared.file.KissFile.{KissFile}
use Rattle.shift_real.specs.Inner.OutputReads.{AreEffectsAfter, MattersAmong}

pub effects_none : (F : KissFile) (states : List ℕ) (effects : List Effect) → length effects ≡ F.inputs → ((a : ℕ) (gate : Bit) → ActsBy effects a gate → ⊥) → AreEffectsAfter F states 0 effects
effects_none F states effects size none = record {
  size = size;
  each = λ b a of_output. (λ acts. absurd (none a (Output b) acts), λ matters. absurd (omega (arith, matters.within)));
}

among_before : (F : KissFile) (b : ℕ) (states : List ℕ) (s a : ℕ) → MattersAmong F b states s a → MattersAmong F b states (s + 1) a
among_before F b states s a h = record { state = h.state; within = omega (arith, h.within); among = h.among; there = h.there }

-- a state of the list more
pub effects_more : (F : KissFile) (words states : List ℕ) (s : ℕ) (old new : List Effect) → Contains states s → AreEffectsAfter F states s old → AddsState F words s old new → AreEffectsAfter F states (s + 1) new
effects_more F words states s old new among before added = record {
  size = added.size ∙ before.size;
  each = λ b a of_output. (
    λ acts. elim ((added.each a (Output b) of_output).0 acts) [
      | inl known ↦ among_before F b states s a ((before.each b a of_output).0 known)
      | inr here ↦ record { state = s; within = omega arith; among = among; there = here }
    ],
    λ h. elim (cases_eq h.state s) [
      | inl same ↦ (added.each a (Output b) of_output).1 (inr (subst (λ (t : ℕ). MattersAt F (output_value F b) t a) same h.there))
      | inr other ↦ (added.each a (Output b) of_output).1 (inl ((before.each b a of_output).1 (record { state = h.state; within = omega (arith, h.within, other); among = h.among; there = h.there })))
    ],
  );
}

-- a state that is not of the list
pub effects_skip : (F : KissFile) (states : List ℕ) (s : ℕ) (old new : List Effect) → (Contains states s → ⊥) → new ≡ old → AreEffectsAfter F states s old → AreEffectsAfter F states (s + 1) new
effects_skip F states s old new none same before =
    subst (AreEffectsAfter F states (s + 1)) (sym same) (record {
      size = before.size;
      each = λ b a of_output. (
        λ acts. among_before F b states s a ((before.each b a of_output).0 acts),
        λ h. elim (cases_eq h.state s) [
          | inl at ↦ absurd (none (subst (Contains states) at h.among))
          | inr other ↦ (before.each b a of_output).1 (record { state = h.state; within = omega (arith, h.within, other); among = h.among; there = h.there })
        ],
      );
    })
