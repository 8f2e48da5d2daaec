-- The rows of the machine of a part of a worked machine.
use Rattle.std.proofs.Common.{◌≡◌, ◌∙◌, ◌<◌, ◌+◌, ℕ, zero, suc, Bool, true, false, cond, eqb, Contains, List, [], ◌∷◌, None, Option, Some, get_or, slice_get, slice_index, refl, sym, ap, subst, arith}
use Rattle.std.proofs.lemmas.List.Elements.{All-cons, All-nil}
use Rattle.std.proofs.lemmas.Option.{same_Some}
use Rattle.cubes.specs.declared.cube.Cube.{Cube}
use Rattle.cubes.specs.Cube.{Holds, HoldsNumber}
use Rattle.cubes.specs.Field.{characters}
use Rattle.cubes.specs.Symbol.{bit, symbol_of}
use Rattle.kiss_file.specs.declared.file.KissFile.{KissFile}
use Rattle.kiss_file.specs.declared.file.KissRow.{KissRow}
use Rattle.kiss_file.specs.LawfulFile.{IsLawfulRow}
use Rattle.kiss_file.specs.Machine.{given_bit, next, output_bit}
use Rattle.machine_table.specs.declared.open_part.Missing.{Missing}
use Rattle.machine_table.specs.declared.open_part.Missing.TheVariants.{Next, Output}
use Rattle.machine_table.specs.OpenEntries.{Says, place_of}
use Rattle.machine_table.specs.Pieces.{IsRightRow, IsSaidBy}
use Rattle.dependence.specs.FilledRows.{AreFilledRows, own_rows}
use Rattle.dependence.specs.declared.sets.ReadSet.{ReadSet}
use Rattle.state_codes.specs.declared.which.Which.TheVariants.{Part as Numbered}
use Rattle.part_machines.specs.Cells.{AreCells, InOneCell, IsCellField, Shows, values_of}
use Rattle.part_machines.specs.Fields.{IsFieldOf, LeavesAt}
use Rattle.part_machines.specs.PartRows.{AreCellRows, ArePartRows, IsPartRow, rows_once}
use Rattle.part_laws.specs.WorkedPart.{counter, counter_code, counter_row, part_row, second_part}
use Rattle.part_laws.proofs.WorkedCubes.{both_00, both_01, both_10, both_11, first_0, first_1, held_both_01, held_both_11, held_second_0, held_second_1, low_bit, no_bit, second_0, second_1, the_cubes}

abbrev pub W : KissFile
W = counter the_cubes

abbrev pub P : KissFile
P = second_part the_cubes

abbrev pub p : List ℕ
p = 0 ∷ 0 ∷ 1 ∷ 2 ∷ []

abbrev pub words : List ℕ
words = 0 ∷ 1 ∷ 4 ∷ 2 ∷ []

abbrev pub set : ReadSet
set = record { inputs = 1 ∷ []; latches = 0 ∷ [] }

-- ---- the cells
apart : (t s : ℕ) → t < s → s < 4 → InOneCell p words (0 ∷ []) t s → ⊥
apart t zero below low both = absurd (omega (arith, below))
apart zero (suc zero) below low both = absurd (cc)
apart (suc t) (suc zero) below low both = absurd (omega (arith, below))
apart zero (suc (suc zero)) below low both = absurd (omega (arith, both.0.2))
apart (suc zero) (suc (suc zero)) below low both = absurd (omega (arith, both.0.2))
apart (suc (suc t)) (suc (suc zero)) below low both = absurd (omega (arith, below))
apart zero (suc (suc (suc zero))) below low both = absurd (omega (arith, both.0.2))
apart (suc zero) (suc (suc (suc zero))) below low both = absurd (omega (arith, both.0.2))
apart (suc (suc zero)) (suc (suc (suc zero))) below low both = absurd (omega (arith, both.0.2))
apart (suc (suc (suc t))) (suc (suc (suc zero))) below low both = absurd (omega (arith, below))
apart t (suc (suc (suc (suc s)))) below low both = absurd (omega (arith, low))

abbrev leasts : List ℕ
leasts = 0 ∷ 1 ∷ 2 ∷ 3 ∷ []

at_place : (s : ℕ) → s < 4 → get_or leasts s s ≡ s
at_place zero low = refl
at_place (suc zero) low = refl
at_place (suc (suc zero)) low = refl
at_place (suc (suc (suc zero))) low = refl
at_place (suc (suc (suc (suc s)))) low = absurd (omega (arith, low))

low_item : (s : ℕ) → Contains leasts s → s < 4
low_item s (k, lt, is) = omega (arith, lt, is, low_at k s lt)
  where
    low_at : (k d : ℕ) → k < 4 → get_or leasts k d < 4
    low_at zero d lt = omega arith
    low_at (suc zero) d lt = omega arith
    low_at (suc (suc zero)) d lt = omega arith
    low_at (suc (suc (suc zero))) d lt = omega arith
    low_at (suc (suc (suc (suc k)))) d lt = absurd (omega (arith, lt))

up : (k : ℕ) → k + 1 < 4 → get_or leasts k 0 < get_or leasts (k + 1) 0
up zero lt = omega arith
up (suc zero) lt = omega arith
up (suc (suc zero)) lt = omega arith
up (suc (suc (suc k))) lt = absurd (omega (arith, lt))

cells : AreCells p words (0 ∷ []) leasts
cells = record {
  each = λ s. (
    (λ among. record { state = low_item s among; least = λ t below both. apart t s below (low_item s among) both }),
    (λ least. (s, least.state, at_place s least.state)),
  );
  ascend = up;
}

-- ---- the fields
-- a word of one bit
literal_of : (a : Bool) (k : ℕ) (b : Bool) → slice_get (a ∷ []) k ≡ Some b → slice_get (Some a ∷ []) k ≡ Some (Some b)
literal_of a zero b is = let same : a ≡ b = same_Some a b is in ap (λ (c : Bool). Some (Some c)) same
literal_of a (suc k) b is = absurd (cc)

dash_of : (Shown : List Bool → Type 0) (a : Bool) → LeavesAt Shown (a ∷ []) 0 → (k : ℕ) → k < 1 → (LeavesAt Shown (a ∷ []) k → ⊥) → slice_get (Some a ∷ []) k ≡ Some None
dash_of Shown a leaves zero below stays = absurd (stays leaves)
dash_of Shown a leaves (suc k) below stays = absurd (omega (arith, below))

-- another value is shown
bit_field : (Shown : List Bool → Type 0) (a : Bool) → LeavesAt Shown (a ∷ []) 0 → IsFieldOf Shown (a ∷ []) (Some a ∷ [])
bit_field Shown a leaves = record { size = refl; literal = λ k b is left. literal_of a k b is; dash = dash_of Shown a leaves }

-- no other value is shown
abbrev dash_alone : List (Option Bool)
dash_alone = None ∷ []

literal_none : (Shown : List Bool → Type 0) (a : Bool) → ((w : List Bool) → Shown w → w ≡ a ∷ []) → (k : ℕ) (b : Bool) → slice_get (a ∷ []) k ≡ Some b → LeavesAt Shown (a ∷ []) k → slice_get dash_alone k ≡ Some (Some b)
literal_none Shown a only k b is leaves = absurd (leaves.differs (ap (λ (w : List Bool). slice_get w k) (only leaves.other leaves.shown)))

dash_none : (k : ℕ) → k < 1 → slice_get dash_alone k ≡ Some None
dash_none zero below = refl
dash_none (suc k) below = absurd (omega (arith, below))

dash_field : (Shown : List Bool → Type 0) (a : Bool) → ((w : List Bool) → Shown w → w ≡ a ∷ []) → IsFieldOf Shown (a ∷ []) (None ∷ [])
dash_field Shown a only = record { size = refl; literal = literal_none Shown a only; dash = λ k below stays. dash_none k below }

-- the states of the blocks of one state
only_2 : (t : ℕ) → slice_index p 2 ≡ slice_index p t → t < 4 → values_of words (0 ∷ []) t ≡ false ∷ []
only_2 zero same low = absurd (omega (arith, same))
only_2 (suc zero) same low = absurd (omega (arith, same))
only_2 (suc (suc zero)) same low = refl
only_2 (suc (suc (suc zero))) same low = absurd (omega (arith, same))
only_2 (suc (suc (suc (suc t)))) same low = absurd (omega (arith, low))

only_3 : (t : ℕ) → slice_index p 3 ≡ slice_index p t → t < 4 → values_of words (0 ∷ []) t ≡ false ∷ []
only_3 zero same low = absurd (omega (arith, same))
only_3 (suc zero) same low = absurd (omega (arith, same))
only_3 (suc (suc zero)) same low = absurd (omega (arith, same))
only_3 (suc (suc (suc zero))) same low = refl
only_3 (suc (suc (suc (suc t)))) same low = absurd (omega (arith, low))

field_a : IsCellField p words (0 ∷ []) 0 (Some false ∷ [])
field_a =
    bit_field (Shows p words (0 ∷ []) 0) false
    (record { other = true ∷ []; shown = record { state = 1; together = (omega arith, omega arith, refl); has = refl }; before = refl; differs = λ same. absurd (cc) })

field_b : IsCellField p words (0 ∷ []) 1 (Some true ∷ [])
field_b =
    bit_field (Shows p words (0 ∷ []) 1) true
    (record { other = false ∷ []; shown = record { state = 0; together = (omega arith, omega arith, refl); has = refl }; before = refl; differs = λ same. absurd (cc) })

field_c : IsCellField p words (0 ∷ []) 2 (None ∷ [])
field_c = dash_field (Shows p words (0 ∷ []) 2) false (λ w shown. sym shown.has ∙ only_2 shown.state shown.together.2 shown.together.1)

field_d : IsCellField p words (0 ∷ []) 3 (None ∷ [])
field_d = dash_field (Shows p words (0 ∷ []) 3) false (λ w shown. sym shown.has ∙ only_3 shown.state shown.together.2 shown.together.1)

-- ---- the filled rows
-- where the counter goes, and what it gives
abbrev goes : ℕ → Bool → ℕ
goes s v = cond v (slice_index (1 ∷ 2 ∷ 3 ∷ 0 ∷ []) s) s

abbrev gives : ℕ → Bool → Bool → Bool
gives s u v = cond (eqb s 0) (cond v u false) false

next_is : (s : ℕ) (u v : Bool) → s < 4 → next W s (u ∷ v ∷ []) ≡ goes s v
unfolding characters
next_is zero u false low = refl
next_is zero true true low = refl
next_is zero false true low = refl
next_is (suc zero) u false low = refl
next_is (suc zero) u true low = refl
next_is (suc (suc zero)) u false low = refl
next_is (suc (suc zero)) u true low = refl
next_is (suc (suc (suc zero))) u false low = refl
next_is (suc (suc (suc zero))) u true low = refl
next_is (suc (suc (suc (suc s)))) u v low = absurd (omega (arith, low))

output_is : (s : ℕ) (u v : Bool) → s < 4 → output_bit W s (u ∷ v ∷ []) 0 ≡ gives s u v
unfolding characters
output_is zero u false low = refl
output_is zero true true low = refl
output_is zero false true low = refl
output_is (suc zero) u false low = refl
output_is (suc zero) u true low = refl
output_is (suc (suc zero)) u false low = refl
output_is (suc (suc zero)) u true low = refl
output_is (suc (suc (suc zero))) u false low = refl
output_is (suc (suc (suc zero))) u true low = refl
output_is (suc (suc (suc (suc s)))) u v low = absurd (omega (arith, low))

symbol_is : (x : ℕ) → symbol_of 2 x ≡ bit x 1 ∷ bit x 0 ∷ []
unfolding symbol_of
symbol_is x = refl

-- a row that says what the counter does
record IsTrueRow (cube : Cube) (s t value : ℕ) : Type 0 where
  width : cube.width ≡ 2
  state : s < 4
  goal : t < 4
  small : value < 2
  steps : (u v : Bool) → Holds cube (u ∷ v ∷ []) → goes s v ≡ t
  answers : (u v : Bool) → Holds cube (u ∷ v ∷ []) → gives s u v ≡ bit value 0

held : (cube : Cube) (x : ℕ) → cube.width ≡ 2 → HoldsNumber cube x → Holds cube (bit x 1 ∷ bit x 0 ∷ [])
held cube x width h = subst (Holds cube) (symbol_is x) (subst (λ (n : ℕ). Holds cube (symbol_of n x)) width h)

right_row : (cube : Cube) (s t value : ℕ) → IsTrueRow cube s t value → IsRightRow W s (counter_row cube s t value)
right_row cube s t value is = record {
  lawful = record {
    width = is.width;
    from = is.state;
    to = is.goal;
    care = λ b one. low_care b one;
    value = λ b one. low_value b one;
  };
  state = refl;
  next_state = λ x u low h to.
      ap (next W s) (symbol_is x) ∙ next_is s (bit x 1) (bit x 0) is.state ∙ is.steps (bit x 1) (bit x 0) (held cube x is.width h) ∙ same_Some t u to;
  output = λ x b given low h gave. output_at x b given h gave;
}
  where
    low_care : (b : ℕ) → bit 1 b ≡ true → b < 1
    low_care zero one = omega arith
    low_care (suc b) one = absurd (low_bit 1 1 (suc b) (omega arith) one (omega arith))

    low_value : (b : ℕ) → bit value b ≡ true → bit 1 b ≡ true
    low_value zero one = refl
    low_value (suc b) one = absurd (low_bit value 1 (suc b) (omega (arith, is.small)) one (omega arith))

    output_at : (x b : ℕ) (given : Bool) → HoldsNumber cube x → given_bit b (counter_row cube s t value) ≡ Some given → output_bit W s (symbol_of 2 x) b ≡ given
    output_at x zero given h gave =
        ap (λ (y : List Bool). output_bit W s y 0) (symbol_is x) ∙ output_is s (bit x 1) (bit x 0) is.state ∙ is.answers (bit x 1) (bit x 0) (held cube x is.width h)
        ∙ same_Some (bit value 0) given gave
    output_at x (suc b) given h gave =
        let none : bit 1 (suc b) ≡ false = no_bit 1 1 (suc b) (omega arith) (omega arith) in
        let dash : given_bit (suc b) (counter_row cube s t value) ≡ None = ap (λ (c : Bool). cond c (Some (bit value (suc b))) None) none in
        absurd (cc)

-- the rows at the second value 0, and at 1
true_0 : (s : ℕ) → s < 4 → goes s false ≡ s → ((u : Bool) → gives s u false ≡ false) → IsTrueRow second_0 s s 0
true_0 s low stays none = record {
  width = refl;
  state = low;
  goal = low;
  small = omega arith;
  steps = λ u v h. ap (goes s) (held_second_0 (u ∷ v ∷ []) h) ∙ stays;
  answers = λ u v h. ap (gives s u) (held_second_0 (u ∷ v ∷ []) h) ∙ none u;
}

true_1 : (s t : ℕ) → s < 4 → t < 4 → goes s true ≡ t → ((u : Bool) → gives s u true ≡ false) → IsTrueRow second_1 s t 0
true_1 s t low goal step none = record {
  width = refl;
  state = low;
  goal = goal;
  small = omega arith;
  steps = λ u v h. ap (goes s) (held_second_1 (u ∷ v ∷ []) h) ∙ step;
  answers = λ u v h. ap (gives s u) (held_second_1 (u ∷ v ∷ []) h) ∙ none u;
}

true_01 : IsTrueRow both_01 0 1 0
true_01 = record {
  width = refl;
  state = omega arith;
  goal = omega arith;
  small = omega arith;
  steps = λ u v h. ap (goes 0) (held_both_01 (u ∷ v ∷ []) h).1;
  answers = λ u v h. ap (gives 0 u) (held_both_01 (u ∷ v ∷ []) h).1 ∙ (held_both_01 (u ∷ v ∷ []) h).0;
}

true_11 : IsTrueRow both_11 0 1 1
true_11 = record {
  width = refl;
  state = omega arith;
  goal = omega arith;
  small = omega arith;
  steps = λ u v h. ap (goes 0) (held_both_11 (u ∷ v ∷ []) h).1;
  answers = λ u v h. ap (gives 0 u) (held_both_11 (u ∷ v ∷ []) h).1 ∙ (held_both_11 (u ∷ v ∷ []) h).0;
}

-- what each row says
all_said : (cube : Cube) (s t value : ℕ) (part : Missing) → place_of part < 2 → Says part (counter_row cube s t value)
all_said cube s t value Next low = refl
all_said cube s t value (Output zero) low = refl
all_said cube s t value (Output (suc b)) low = absurd (omega (arith, low))

number_held : (cube : Cube) (x : ℕ) → cube.width ≡ 2 → Holds cube (bit x 1 ∷ bit x 0 ∷ []) → HoldsNumber cube x
number_held cube x width h = subst (λ (n : ℕ). Holds cube (symbol_of n x)) (sym width) (subst (Holds cube) (sym (symbol_is x)) h)

holds_0 : (u v : Bool) → v ≡ false → Holds second_0 (u ∷ v ∷ [])
unfolding Holds characters
holds_0 u v is = (tt, (is, tt))

holds_1 : (u v : Bool) → v ≡ true → Holds second_1 (u ∷ v ∷ [])
unfolding Holds characters
holds_1 u v is = (tt, (is, tt))

holds_01 : (u v : Bool) → u ≡ false → v ≡ true → Holds both_01 (u ∷ v ∷ [])
unfolding Holds characters
holds_01 u v is also = (is, (also, tt))

holds_11 : (u v : Bool) → u ≡ true → v ≡ true → Holds both_11 (u ∷ v ∷ [])
unfolding Holds characters
holds_11 u v is also = (is, (also, tt))

-- the rows of a state
abbrev rows_a : List KissRow
rows_a = counter_row second_0 0 0 0 ∷ counter_row both_01 0 1 0 ∷ counter_row both_11 0 1 1 ∷ []

abbrev rows_from : ℕ → ℕ → List KissRow
rows_from s t = counter_row second_0 s s 0 ∷ counter_row second_1 s t 0 ∷ []

said_a : (x : ℕ) (part : Missing) (u v : Bool) → bit x 1 ≡ u → bit x 0 ≡ v → place_of part < 2 → IsSaidBy rows_a x part
said_a x part u false first second low =
    (counter_row second_0 0 0 0, (0, omega arith, refl), number_held second_0 x refl (holds_0 (bit x 1) (bit x 0) second), all_said second_0 0 0 0 part low)
said_a x part false true first second low =
    (counter_row both_01 0 1 0, (1, omega arith, refl), number_held both_01 x refl (holds_01 (bit x 1) (bit x 0) first second), all_said both_01 0 1 0 part low)
said_a x part true true first second low =
    (counter_row both_11 0 1 1, (2, omega arith, refl), number_held both_11 x refl (holds_11 (bit x 1) (bit x 0) first second), all_said both_11 0 1 1 part low)

said_from : (s t x : ℕ) (part : Missing) (v : Bool) → bit x 0 ≡ v → place_of part < 2 → IsSaidBy (rows_from s t) x part
said_from s t x part false second low =
    (counter_row second_0 s s 0, (0, omega arith, refl), number_held second_0 x refl (holds_0 (bit x 1) (bit x 0) second), all_said second_0 s s 0 part low)
said_from s t x part true second low =
    (counter_row second_1 s t 0, (1, omega arith, refl), number_held second_1 x refl (holds_1 (bit x 1) (bit x 0) second), all_said second_1 s t 0 part low)

filled_a : AreFilledRows W 0 rows_a
filled_a = record {
  right =
      All-cons (IsRightRow W 0) (counter_row second_0 0 0 0) (counter_row both_01 0 1 0 ∷ counter_row both_11 0 1 1 ∷ []) (right_row second_0 0 0 0 (true_0 0 (omega arith) refl (λ u. refl)))
      (All-cons (IsRightRow W 0) (counter_row both_01 0 1 0) (counter_row both_11 0 1 1 ∷ []) (right_row both_01 0 1 0 true_01)
      (All-cons (IsRightRow W 0) (counter_row both_11 0 1 1) [] (right_row both_11 0 1 1 true_11) (All-nil (IsRightRow W 0))));
  each = λ x part small low. said_a x part (bit x 1) (bit x 0) refl refl low;
  own = λ specified. refl;
}

filled_from : (s t : ℕ) → s < 4 → t < 4 → goes s false ≡ s → goes s true ≡ t → ((u : Bool) → gives s u false ≡ false) → ((u : Bool) → gives s u true ≡ false) → rows_from s t ≡ own_rows W s → AreFilledRows W s (rows_from s t)
filled_from s t low goal stays step none none_too own = record {
  right =
      All-cons (IsRightRow W s) (counter_row second_0 s s 0) (counter_row second_1 s t 0 ∷ []) (right_row second_0 s s 0 (true_0 s low stays none))
      (All-cons (IsRightRow W s) (counter_row second_1 s t 0) [] (right_row second_1 s t 0 (true_1 s t low goal step none_too)) (All-nil (IsRightRow W s)));
  each = λ x part small low. said_from s t x part (bit x 0) refl low;
  own = λ specified. own;
}

-- ---- the rows of the part
lawful_row : (cube : Cube) (f t value : ℕ) → cube.width ≡ 2 → f < 3 → t < 3 → value < 4 → IsLawfulRow 2 2 3 (part_row cube f t value)
lawful_row cube f t value width from to small = record {
  width = width;
  from = from;
  to = to;
  care = λ b one. care b one;
  value = λ b one. set_bit b one;
}
  where
    care : (b : ℕ) → bit 3 b ≡ true → b < 2
    care zero one = omega arith
    care (suc zero) one = omega arith
    care (suc (suc b)) one = absurd (low_bit 3 2 (suc (suc b)) (omega arith) one (omega arith))

    set_bit : (b : ℕ) → bit value b ≡ true → bit 3 b ≡ true
    set_bit zero one = refl
    set_bit (suc zero) one = refl
    set_bit (suc (suc b)) one = absurd (low_bit value 2 (suc (suc b)) (omega (arith, small)) one (omega arith))

abbrev IsMadeOf : ℕ → List (Option Bool) → KissRow → KissRow → Type 0
IsMadeOf s field row made = IsPartRow W counter_code p set (Numbered 1) s field row made

made_a0 : IsMadeOf 0 (Some false ∷ []) (counter_row second_0 0 0 0) (part_row both_00 0 0 0)
unfolding characters
made_a0 = record { input = refl; from = refl; to = refl; output = refl; lawful = lawful_row both_00 0 0 0 refl (omega arith) (omega arith) (omega arith) }

made_a1 : IsMadeOf 0 (Some false ∷ []) (counter_row both_01 0 1 0) (part_row both_10 0 0 0)
unfolding characters
made_a1 = record { input = refl; from = refl; to = refl; output = refl; lawful = lawful_row both_10 0 0 0 refl (omega arith) (omega arith) (omega arith) }

made_a2 : IsMadeOf 0 (Some false ∷ []) (counter_row both_11 0 1 1) (part_row both_10 0 0 0)
unfolding characters
made_a2 = record { input = refl; from = refl; to = refl; output = refl; lawful = lawful_row both_10 0 0 0 refl (omega arith) (omega arith) (omega arith) }

made_b0 : IsMadeOf 1 (Some true ∷ []) (counter_row second_0 1 1 0) (part_row both_01 0 0 0)
unfolding characters
made_b0 = record { input = refl; from = refl; to = refl; output = refl; lawful = lawful_row both_01 0 0 0 refl (omega arith) (omega arith) (omega arith) }

made_b1 : IsMadeOf 1 (Some true ∷ []) (counter_row second_1 1 2 0) (part_row both_11 0 1 0)
unfolding characters
made_b1 = record { input = refl; from = refl; to = refl; output = refl; lawful = lawful_row both_11 0 1 0 refl (omega arith) (omega arith) (omega arith) }

made_c0 : IsMadeOf 2 (None ∷ []) (counter_row second_0 2 2 0) (part_row first_0 1 1 2)
unfolding characters
made_c0 = record { input = refl; from = refl; to = refl; output = refl; lawful = lawful_row first_0 1 1 2 refl (omega arith) (omega arith) (omega arith) }

made_c1 : IsMadeOf 2 (None ∷ []) (counter_row second_1 2 3 0) (part_row first_1 1 2 2)
unfolding characters
made_c1 = record { input = refl; from = refl; to = refl; output = refl; lawful = lawful_row first_1 1 2 2 refl (omega arith) (omega arith) (omega arith) }

made_d0 : IsMadeOf 3 (None ∷ []) (counter_row second_0 3 3 0) (part_row first_0 2 2 1)
unfolding characters
made_d0 = record { input = refl; from = refl; to = refl; output = refl; lawful = lawful_row first_0 2 2 1 refl (omega arith) (omega arith) (omega arith) }

made_d1 : IsMadeOf 3 (None ∷ []) (counter_row second_1 3 0 0) (part_row first_1 2 0 1)
unfolding characters
made_d1 = record { input = refl; from = refl; to = refl; output = refl; lawful = lawful_row first_1 2 0 1 refl (omega arith) (omega arith) (omega arith) }

abbrev AreOfCell : ℕ → List KissRow → Type 0
AreOfCell s made = AreCellRows W counter_code p set (Numbered 1) s made

abbrev cell_rows_a : List KissRow
cell_rows_a = part_row both_00 0 0 0 ∷ part_row both_10 0 0 0 ∷ []

abbrev cell_rows_b : List KissRow
cell_rows_b = part_row both_01 0 0 0 ∷ part_row both_11 0 1 0 ∷ []

abbrev cell_rows_c : List KissRow
cell_rows_c = part_row first_0 1 1 2 ∷ part_row first_1 1 2 2 ∷ []

abbrev cell_rows_d : List KissRow
cell_rows_d = part_row first_0 2 2 1 ∷ part_row first_1 2 0 1 ∷ []

cell_a : AreOfCell 0 cell_rows_a
unfolding rows_once
cell_a = record {
  field = Some false ∷ [];
  of_cell = field_a;
  filled = rows_a;
  of_state = filled_a;
  all = part_row both_00 0 0 0 ∷ part_row both_10 0 0 0 ∷ part_row both_10 0 0 0 ∷ [];
  each = (made_a0, (made_a1, (made_a2, tt)));
  once = refl;
}

cell_b : AreOfCell 1 cell_rows_b
unfolding rows_once
cell_b = record {
  field = Some true ∷ [];
  of_cell = field_b;
  filled = rows_from 1 2;
  of_state = filled_from 1 2 (omega arith) (omega arith) refl refl (λ u. refl) (λ u. refl) refl;
  all = cell_rows_b;
  each = (made_b0, (made_b1, tt));
  once = refl;
}

cell_c : AreOfCell 2 cell_rows_c
unfolding rows_once
cell_c = record {
  field = None ∷ [];
  of_cell = field_c;
  filled = rows_from 2 3;
  of_state = filled_from 2 3 (omega arith) (omega arith) refl refl (λ u. refl) (λ u. refl) refl;
  all = cell_rows_c;
  each = (made_c0, (made_c1, tt));
  once = refl;
}

cell_d : AreOfCell 3 cell_rows_d
unfolding rows_once
cell_d = record {
  field = None ∷ [];
  of_cell = field_d;
  filled = rows_from 3 0;
  of_state = filled_from 3 0 (omega arith) (omega arith) refl refl (λ u. refl) (λ u. refl) refl;
  all = cell_rows_d;
  each = (made_d0, (made_d1, tt));
  once = refl;
}

pub rows : ArePartRows W counter_code p set (Numbered 1) P.rows
rows = record {
  leasts = leasts;
  cells = cells;
  lists = cell_rows_a ∷ cell_rows_b ∷ cell_rows_c ∷ cell_rows_d ∷ [];
  each = (cell_a, (cell_b, (cell_c, (cell_d, tt))));
  joined = refl;
}
