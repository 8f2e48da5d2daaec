-- Small cases of cells and fields.
use Rattle.std.specs.Prelude.{ℕ, Bool, true, false, List, [], ◌∷◌, None, Option, Some}

-- the words 001, 100 and 101
abbrev pub word_1 : List Bool
word_1 = false ∷ false ∷ true ∷ []

abbrev pub word_4 : List Bool
word_4 = true ∷ false ∷ false ∷ []

abbrev pub word_5 : List Bool
word_5 = true ∷ false ∷ true ∷ []

abbrev pub shown : List (List Bool)
shown = word_1 ∷ word_4 ∷ word_5 ∷ []

-- the characters of a field
abbrev pub zero_at : Option Bool
zero_at = Some false

abbrev pub one_at : Option Bool
one_at = Some true

abbrev pub dash : Option Bool
dash = None

-- The counter modulo 4 in two parts, as `feedback` splits it. Bit 0 is that of the first part, and bits 1 and 2 are
-- those of the second. The codes of its four states are 000, 001, 010 and 100, bit 0 first.
abbrev pub counter_words : List ℕ
counter_words = 0 ∷ 4 ∷ 2 ∷ 1 ∷ []

-- the blocks of the first part, which reads bit 1
abbrev pub first_blocks : List ℕ
first_blocks = 0 ∷ 0 ∷ 0 ∷ 1 ∷ []

abbrev pub first_reads : List ℕ
first_reads = 1 ∷ []

-- the blocks of the second part, which reads bit 0
abbrev pub second_blocks : List ℕ
second_blocks = 0 ∷ 1 ∷ 2 ∷ 0 ∷ []

abbrev pub second_reads : List ℕ
second_reads = 0 ∷ []
