-- The parts of the kinds that search for none: the one part that distinguishes all states, and the parts that the
-- operand PARTS gives.
use Rattle.std.specs.Prelude.{◌≡◌, ◌≤◌, ℕ, List, [], ◌∷◌, length}
use Rattle.operands.specs.PartTexts.{ArePartTexts, texts_of_parts}
use Rattle.partition.specs.Partition.{zero_of}
use Rattle.state_codes.specs.declared.split.Part.{Part}
use Rattle.state_codes.specs.Split.{given_parts, lone_part}

-- the one part of n states that distinguishes them all
abbrev pub code_parts : ℕ → List Part
code_parts states = lone_part (zero_of states) ∷ []

-- the text PARTS has at most 256 pieces
abbrev pub HasFewParts : List ℕ → Type 0
HasFewParts text = length (texts_of_parts text) ≤ 256

-- the parts whose partitions the text PARTS gives, in order; each may read all others
pub record AreGivenParts (states : ℕ) (text : List ℕ) (parts : List Part) : Type 0 where
  pub partitions : List (List ℕ)
  pub texts : ArePartTexts states text partitions
  pub are : parts ≡ given_parts (length partitions) 0 partitions
