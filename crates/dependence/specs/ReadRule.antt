-- Which candidates are read, so that no single one can be left out.
use Rattle.std.specs.Prelude.{◌≢◌, ◌⊎◌, ℕ, ◌<◌, Bool, Contains, IsTrue, List}
use Rattle.kiss_file.specs.declared.file.KissFile.{KissFile}
use Rattle.state_codes.specs.declared.split.Part.{Part}
use Rattle.state_codes.specs.declared.Codes.{Codes}
use Rattle.dependence.specs.Candidates.{IsBitOfCode, IsCandidate}
use Rattle.dependence.specs.SufficientBits.{PermitsValue}

-- the candidates below c, and the read bits above it
abbrev pub Beside : (ℕ → Type 0) → (ℕ → Type 0) → ℕ → ℕ → Type 0
Beside Candidate R c d = (d < c × Candidate d) ⊎ (c < d × R d)

-- candidate c is read exactly where the candidates below it, together with the read ones above it, do not permit the value
pub record IsReadRule (F : KissFile) (words : List ℕ) (Candidate R : ℕ → Type 0) (value : ℕ → List Bool → Bool) : Type 0 where
  pub candidates : (c : ℕ) → R c → Candidate c
  pub needed : (c : ℕ) → R c → PermitsValue F words (Beside Candidate R c) value → ⊥
  pub spared : (c : ℕ) → Candidate c → (R c → ⊥) → PermitsValue F words (Beside Candidate R c) value

-- the set without one of its bits
abbrev pub Without : (ℕ → Type 0) → ℕ → ℕ → Type 0
Without R c d = R d × (d ≢ c)

-- the bits permit the value, and without any one of them they do not
pub record IsIrredundant (F : KissFile) (words : List ℕ) (R : ℕ → Type 0) (value : ℕ → List Bool → Bool) : Type 0 where
  pub permits : PermitsValue F words R value
  pub none_to_spare : (c : ℕ) → R c → PermitsValue F words (Without R c) value → ⊥

-- a law of the rule: bits that are read by it, among candidates given by a test and below some number, permit what the
-- candidates permit, and none of them can be left out
abbrev pub RuleIsIrredundant : Type 0
RuleIsIrredundant =
    (F : KissFile) (words : List ℕ) (bits : ℕ) (candidate : ℕ → Bool) (read : List ℕ) (value : ℕ → List Bool → Bool)
    → ((c : ℕ) → IsTrue (candidate c) → c < bits) → PermitsValue F words (λ c. IsTrue (candidate c)) value
    → IsReadRule F words (λ c. IsTrue (candidate c)) (Contains read) value → IsIrredundant F words (Contains read) value

-- the same for the candidates of a latch
abbrev pub LatchRuleIsIrredundant : Type 0
LatchRuleIsIrredundant =
    (F : KissFile) (words : List ℕ) (parts : List Part) (codes : Codes) (i : ℕ) (read : List ℕ) (value : ℕ → List Bool → Bool)
    → PermitsValue F words (IsCandidate parts codes i) value → IsReadRule F words (IsCandidate parts codes i) (Contains read) value
    → IsIrredundant F words (Contains read) value

-- and for those of an output
abbrev pub OutputRuleIsIrredundant : Type 0
OutputRuleIsIrredundant =
    (F : KissFile) (words : List ℕ) (codes : Codes) (read : List ℕ) (value : ℕ → List Bool → Bool)
    → PermitsValue F words (IsBitOfCode codes) value → IsReadRule F words (IsBitOfCode codes) (Contains read) value
    → IsIrredundant F words (Contains read) value
