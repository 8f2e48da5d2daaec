-- Sets of bits, and the judgement of one bit.
use Rattle.std.specs.Prelude.{◌≢◌, ◌↔◌, ℕ, ◌≤◌, ◌<◌, Bool, List}
use Rattle.kiss_file.specs.declared.file.KissFile.{KissFile}
use Rattle.dependence.specs.SufficientBits.{InWord, PermitsValue}
use Rattle.dependence.specs.ReadRule.{Beside, Without}

-- bit c was judged: it is left out where the set without it permits the value, and all other bits are unchanged
pub record IsBitDecided (F : KissFile) (words : List ℕ) (value : ℕ → List Bool → Bool) (set c kept : ℕ) : Type 0 where
  pub others : (d : ℕ) → d ≢ c → InWord kept d ↔ InWord set d
  pub within : InWord kept c → InWord set c
  pub needed : InWord kept c → PermitsValue F words (Without (InWord set) c) value → ⊥
  pub spared : InWord set c → (InWord kept c → ⊥) → PermitsValue F words (Without (InWord set) c) value

-- the bits from c on were judged, and all candidates below c are still in the set
pub record AreJudgedFrom (F : KissFile) (words : List ℕ) (value : ℕ → List Bool → Bool) (candidates set c : ℕ) : Type 0 where
  pub below : (d : ℕ) → d < c → InWord candidates d → InWord set d
  pub within : (d : ℕ) → InWord set d → InWord candidates d
  pub needed : (d : ℕ) → c ≤ d → InWord set d → PermitsValue F words (Beside (InWord candidates) (InWord set) d) value → ⊥
  pub spared : (d : ℕ) → c ≤ d → InWord candidates d → (InWord set d → ⊥) → PermitsValue F words (Beside (InWord candidates) (InWord set) d) value
