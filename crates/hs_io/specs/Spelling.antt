-- Lines that are spelled by their fields, with one space between fields and a line feed after the last.
use Rattle.std.specs.Prelude.{◌≡◌, ◌≢◌, ℕ, ◌<◌, ◌≤◌, List, [], ◌∷◌, ◌++◌, length}
use Rattle.std.specs.List.{flat_map, AllByRecursion}

-- a field after a space
abbrev pub spaced : List ℕ → List ℕ
spaced field = 32 ∷ field

-- the fields with one space between each and the next
abbrev pub line_text : List (List ℕ) → List ℕ
line_text [] = []
line_text (field ∷ fields) = field ++ flat_map spaced fields

-- a text as a line
abbrev pub ended : List ℕ → List ℕ
ended text = text ++ 10 ∷ []

-- the lines of these fields
abbrev pub spelled : List (List (List ℕ)) → List ℕ
spelled lines = flat_map (λ fields. ended (line_text fields)) lines

-- a visible byte of ASCII other than the mark of a comment
pub record IsFieldByte (byte : ℕ) : Type 0 where
  pub low : 33 ≤ byte
  pub high : byte ≤ 126
  pub no_comment : byte ≢ 35

-- what can be a field: one or more such bytes
pub record IsPlainField (field : List ℕ) : Type 0 where
  pub some : 0 < length field
  pub visible : AllByRecursion IsFieldByte field

abbrev pub ArePlainFields : List (List ℕ) → Type 0
ArePlainFields fields = AllByRecursion IsPlainField fields

-- a line that is only a comment
abbrev pub IsComment : List ℕ → Type 0
IsComment [] = ⊥
IsComment (b ∷ bs) = (b ≡ 35) × AllByRecursion (λ c. c ≢ 10) bs
