-- Why a split gives no codes.
use Rattle.std.specs.Prelude.{ℕ, ◌<◌, List}
use Rattle.state_codes.specs.declared.split.Part.{Part}
use Rattle.state_codes.specs.declared.CodeFail.{CodeFail}
use Rattle.state_codes.specs.declared.CodeFail.TheVariants.{NotApart, CodeTooLong, NoMemory}
use Rattle.state_codes.specs.Split.{TogetherInAll}
use Rattle.state_codes.specs.Code.{IsLength}

-- no two states are together in all parts
abbrev pub AreApart : ℕ → List Part → Type 0
AreApart n parts = (s t : ℕ) → s < t → t < n → TogetherInAll parts s t → ⊥

-- the least t above s that is together with s in all parts
pub record FirstPartner (n : ℕ) (parts : List Part) (s t : ℕ) : Type 0 where
  pub above : s < t
  pub within : t < n
  pub together : TogetherInAll parts s t
  pub least : (u : ℕ) → s < u → u < t → TogetherInAll parts s u → ⊥

-- the first two states, by s and then by t, that are together in all parts
pub record FirstTogether (n : ℕ) (parts : List Part) (s t : ℕ) : Type 0 where
  pub partner : FirstPartner n parts s t
  pub first : (u v : ℕ) → u < s → u < v → v < n → TogetherInAll parts u v → ⊥

-- the causes of the refusals, in the order in which they are checked
abbrev pub CodeFault : ℕ → List Part → CodeFail → Type 0
CodeFault n parts (NotApart s t) = FirstTogether n parts s t
CodeFault n parts (CodeTooLong bits) = AreApart n parts × IsLength parts bits × (64 < bits)
CodeFault n parts NoMemory = ⊥
