-- The text of an operand.
use Rattle.std.specs.Prelude.{◌≡◌, ℕ, ◌<◌, ◌≤◌, List, Option, IfSome, length}
use Rattle.answers.specs.declared.refusals.Refusal.TheVariants.{TooLong}
use Rattle.answers.specs.Cause.{Cause}

-- the greatest number of bytes that a text may have: 4 MiB
abbrev pub most_bytes : ℕ
most_bytes = 4194304

-- bytes that a text may have
abbrev pub IsShortText : List ℕ → Type 0
IsShortText bytes = length bytes ≤ most_bytes

-- the named operand has more bytes than a text may have
abbrev pub Lengthy : List ℕ → List ℕ → Cause
Lengthy name bytes refusal = (refusal ≡ TooLong name) × (most_bytes < length bytes)

-- bytes that the shelf may hold: any bytes where its bytes are not known, and only those where they are
abbrev pub MayBe : Option (List ℕ) → List ℕ → Type 0
MayBe held bytes = IfSome held (λ told. bytes ≡ told)

-- a text within the limit; where the shelf's bytes are known, it is these bytes
abbrev pub IsText : Option (List ℕ) → List ℕ → Type 0
IsText held bytes = IsShortText bytes × MayBe held bytes
