-- The pairs always have codes: two of them differ in the block or in the place in it, and the codes are short.
use Rattle.std.proofs.Common.{◌≡◌, ◌≢◌, ◌⊎◌, ◌≤◌, ℕ, List, Result, Err, inl, inr, length, sym, ◌∙◌, subst, arith}
use Rattle.cover_split.specs.StateCover.{IsStateCover}
use Rattle.cover_split.specs.Expansion.{pairs_of}
use Rattle.cover_split.specs.Laws.Pairs.{few_blocks}
use Rattle.cover_texts.specs.Inner.Steps.{AreParts}
use Rattle.cover_texts.proofs.Sizes.{short_length}
use Rattle.state_codes.specs.declared.CodeFail.{CodeFail}
use Rattle.state_codes.specs.declared.CodeFail.TheVariants.{CodeTooLong, NotApart, NoMemory}
use Rattle.state_codes.specs.declared.Codes.{Codes}
use Rattle.state_codes.specs.declared.split.Part.{Part}
use Rattle.state_codes.specs.Fault.{CodeFault}

module _ (n : ℕ) (blocks : List (List ℕ)) (parts : List Part) (are : AreParts blocks parts) (result : Result Codes CodeFail) (fail : CodeFail) (refused : (f : CodeFail) → result ≡ Err f → (f ≡ NoMemory) ⊎ CodeFault n parts f) (failed : result ≡ Err fail) where
  fault_of : (cause : CodeFail) → fail ≡ cause → cause ≢ NoMemory → CodeFault n parts cause
  fault_of cause is other =
      elim (refused fail failed) [
        | inl wanting ↦ absurd (other (sym is ∙ wanting))
        | inr fault ↦ subst (λ (f : CodeFail). CodeFault n parts f) is fault
      ]

  pub never_together : (s t : ℕ) → fail ≡ NotApart s t → ⊥
  never_together s t is =
      let fault : CodeFault n parts (NotApart s t) = fault_of (NotApart s t) is (λ e. cc) in
      let same : s ≡ t = are.in_zero s t (fault.partner).together in
      omega (arith, same, (fault.partner).above)

  pub never_long : (m : ℕ) → IsStateCover m blocks → (bits : ℕ) → fail ≡ CodeTooLong bits → ⊥
  never_long m cover bits is =
      let fault : CodeFault n parts (CodeTooLong bits) = fault_of (CodeTooLong bits) is (λ e. cc) in
      let few : length blocks ≤ 256 = omega (arith, few_blocks m blocks cover.lawful, cover.few) in
      omega (arith, short_length (length (pairs_of blocks)) blocks parts are.split are.lawful bits few fault.1, fault.2)
