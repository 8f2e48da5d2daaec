-- What a sink was given, where its bytes are known.
use Rattle.std.specs.Prelude.{◌≡◌, ℕ, List, ◌++◌, Option, take}
use Rattle.std.specs.Option.{option_map}

-- a whole piece was appended to the bytes, where they are known
abbrev pub Appends : Option (List ℕ) → List ℕ → Option (List ℕ) → Type 0
Appends old piece new = new ≡ option_map (λ bytes. bytes ++ piece) old

-- a front of a piece was appended, which may be none or all of it
abbrev pub AppendsFront : Option (List ℕ) → List ℕ → Option (List ℕ) → Type 0
AppendsFront old piece new = (taken : ℕ) × Appends old (take taken piece) new
