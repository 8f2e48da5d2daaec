-- The network of codes can be written: its names are fields, its rows are planes and its starts are known.
use Rattle.std.proofs.Common.{◌≡◌, ◌≢◌, ℕ, zero, suc, ◌+◌, ◌<◌, ◌≤◌, ◌/◌, ◌%◌, ◌⊎◌, ◌||◌, ◌&&◌, inl, inr, Bool, true, false, cond, eqb, ltb, Option, Some, None, List, [], ◌∷◌, ◌++◌, length, map, get_or, remove, IsTrue, All, refl, arith, length-append}
use Rattle.std.specs.Cmp.Lexicographic.{slice_cmp}
use Rattle.std.specs.Fmt.{decimal, digit_glyph, digits, digits_onto}
use Rattle.std.specs.List.{AllByRecursion, list_any, range_with_len}
use Rattle.std.specs.List.Sorted.{IsSorted}
use Rattle.std.specs.Option.{unwrap_or}
use Rattle.std.specs.Ordering.{nat_cmp}
use Rattle.std.proofs.Math.Nat.{mod-lt}
use Rattle.std.proofs.lemmas.Bool.Decides.{nat_tests}
use Rattle.std.proofs.lemmas.List.Elements.{All-append, All-map, All-same, All-weaker, recursion_from_All}
use Rattle.list_facts.specs.Laws.Everywhere.{all_from_map}
use Rattle.blif_out.specs.Order.{HasRowsInOrder}
use Rattle.blif_out.specs.Writable.{IsPlane, IsSignalName, IsWritable, IsWritableGate, IsWritableLatch}
use Rattle.blif_out.specs.Laws.Words.{is_name_byte, name_from_bytes}
use Rattle.dependence.specs.declared.sets.Reads.{Reads}
use Rattle.hs_io.specs.Spelling.{ArePlainFields, IsFieldByte, IsPlainField}
use Rattle.kiss_file.specs.declared.file.KissFile.{KissFile}
use Rattle.kiss_file.specs.LawfulFile.{AreGiven, IsGivenName, IsLawful}
use Rattle.kiss_file.specs.Names.{IsPlainName}
use Rattle.net_core.specs.declared.Gate.{Gate}
use Rattle.net_core.specs.declared.Latch.{Latch}
use Rattle.net_core.specs.declared.Network.{Network}
use Rattle.net_core.specs.declared.SignalNames.{SignalNames}
use Rattle.net_core.specs.declared.Start.{Start}
use Rattle.net_core.specs.declared.Start.TheVariants.{Zero, One, Free, Unknown}
use Rattle.net_core.specs.SoundNetwork.{driven_by}
use Rattle.net_core.specs.Statements.{is_plane_character}
use Rattle.net_core.specs.Step.{AreStarts, bit_of_start, character_holds, row_holds}
use Rattle.realise.specs.Names.{AreNames, input_letter, next_letter, output_letter, own_name, own_names, prefix, state_letter}
use Rattle.realise.specs.CodeNetwork.{AreCounted, AreEnough, IsRealised, name_at}
use Rattle.gate_rows.specs.GateCovers.{IsGoodCover}
use Rattle.realise.specs.Laws.Gates.{IsSomeGate, driven_names, each_gate}

-- ---- own names
-- bytes that a signal's name may have
abbrev AreNameBytes : List ℕ → Type 0
AreNameBytes bytes = AllByRecursion (λ b. is_name_byte b ≡ true) bytes

-- a decimal digit is such a byte
digit_byte : (d : ℕ) → d < 10 → is_name_byte (48 + d) ≡ true
digit_byte d small = grind (arith, nat_tests)

-- and so is what is written for it
glyph_byte : (d : ℕ) → d < 10 → is_name_byte (digit_glyph false d) ≡ true
glyph_byte d small = let low : ltb d 10 ≡ true = grind (arith, nat_tests) in rw low (digit_byte d small)

-- digits before such bytes
digits_bytes : (count number : ℕ) (bytes : List ℕ) → AreNameBytes bytes → AreNameBytes (digits_onto count 10 false number bytes)
digits_bytes zero number bytes are = are
digits_bytes (suc count) number bytes are =
    let last : ℕ = digit_glyph false (number % 10) in
    let more : AreNameBytes (last ∷ bytes) = (glyph_byte (number % 10) (mod-lt number (omega arith)), are) in
    either (eqb (number / 10) 0) (last ∷ bytes) (digits_onto count 10 false (number / 10) (last ∷ bytes)) more
    (digits_bytes count (number / 10) (last ∷ bytes) more)
  where
    either : (test : Bool) (xs ys : List ℕ) → AreNameBytes xs → AreNameBytes ys → AreNameBytes (cond test xs ys)
    either true xs ys p q = p
    either false xs ys p q = q

-- a numeral has such bytes alone
numeral_bytes : (number : ℕ) → AreNameBytes (decimal number)
unfolding digits
numeral_bytes number = digits_bytes 64 number [] tt

-- a prefix before such bytes
prefix_bytes : (count : ℕ) (bytes : List ℕ) → AreNameBytes bytes → AreNameBytes (prefix count ++ bytes)
prefix_bytes zero bytes are = are
prefix_bytes (suc count) bytes are = (refl, (refl, (refl, prefix_bytes count bytes are)))

-- a prefix, a letter and a numeral are a name
own_is_name : (count letter : ℕ) → is_name_byte letter ≡ true → (number : ℕ) → IsSignalName (own_name count letter number)
own_is_name count letter is number =
    name_from_bytes (own_name count letter number) (omega (arith, length-append (prefix count) (letter ∷ decimal number)))
    (prefix_bytes count (letter ∷ decimal number) (is, numeral_bytes number))

-- so are all own names
own_are_names : (count letter : ℕ) → is_name_byte letter ≡ true → (many : ℕ) → All IsSignalName (own_names count letter many)
own_are_names count letter is many = All-map IsSignalName (own_name count letter) (range_with_len 0 many) (λ k d lt. own_is_name count letter is (get_or (range_with_len 0 many) k d))

-- ---- given names
-- a byte of a given name is such a byte
given_byte : (b : ℕ) → IsFieldByte b → (b ≡ 92 → ⊥) → is_name_byte b ≡ true
given_byte b is other =
    let low : 33 ≤ b = is.low in
    let high : b ≤ 126 = is.high in
    let plain : b ≡ 35 → ⊥ = is.no_comment in
    grind (arith, nat_tests)

given_bytes : (bytes : List ℕ) → AllByRecursion IsFieldByte bytes → AllByRecursion (λ b. b ≢ 92) bytes → AreNameBytes bytes
given_bytes [] visible other = tt
given_bytes (b ∷ bytes) (one, visible) (plain, other) = (given_byte b one plain, given_bytes bytes visible other)

-- so a given name is a name
given_is_name : (name : List ℕ) → IsGivenName name → IsSignalName name
given_is_name name is =
    name_from_bytes name is.some
    (given_bytes name (recursion_from_All IsFieldByte name is.visible) (recursion_from_All (λ b. b ≢ 92) name is.no_backslash))

-- names are given or own
either_are_names : (given : Option (List (List ℕ))) (own : List (List ℕ)) (many : ℕ) → AreGiven many given → All IsSignalName own → All IsSignalName (unwrap_or given own)
either_are_names None own many are each = each
either_are_names (Some names) own many are each = All-weaker IsGivenName IsSignalName given_is_name names are.1

-- the names of a file's network can stand in a text
pub record AreSignalNames (names : SignalNames) : Type 0 where
  pub inputs : All IsSignalName names.inputs
  pub outputs : All IsSignalName names.outputs
  pub latch_inputs : All IsSignalName names.latch_inputs
  pub latch_outputs : All IsSignalName names.latch_outputs

pub file_names : (F : KissFile) (bits : ℕ) (names : SignalNames) → IsLawful F → AreNames F bits names → AreSignalNames names
file_names F bits names lawful are = record {
  inputs =
      All-same IsSignalName names.inputs (unwrap_or F.input_names (own_names are.count input_letter F.inputs)) are.inputs
      (either_are_names F.input_names (own_names are.count input_letter F.inputs) F.inputs lawful.input_names (own_are_names are.count input_letter refl F.inputs));
  outputs =
      All-same IsSignalName names.outputs (unwrap_or F.output_names (own_names are.count output_letter F.outputs)) are.outputs
      (either_are_names F.output_names (own_names are.count output_letter F.outputs) F.outputs lawful.output_names (own_are_names are.count output_letter refl F.outputs));
  latch_inputs = All-same IsSignalName names.latch_inputs (own_names are.count next_letter bits) are.latch_inputs (own_are_names are.count next_letter refl bits);
  latch_outputs = All-same IsSignalName names.latch_outputs (own_names are.count state_letter bits) are.latch_outputs (own_are_names are.count state_letter refl bits);
}

-- ---- rows
-- a character that holds a bit is one of a plane
pub plane_character : (c : ℕ) (bit : Bool) → character_holds c bit ≡ true → IsTrue (is_plane_character c)
plane_character c true held = grind (arith, nat_tests)
plane_character c false held = grind (arith, nat_tests)

both_true : (a b : Bool) → (a && b) ≡ true → (a ≡ true) × (b ≡ true)
both_true true true held = (refl, refl)
both_true true false held = cc
both_true false b held = cc

-- a row that holds some values is a plane
held_plane : (row : List ℕ) (read : List Bool) → row_holds row read ≡ true → AllByRecursion (λ c. IsTrue (is_plane_character c)) row
held_plane [] read held = tt
held_plane (c ∷ cs) [] held = cc
held_plane (c ∷ cs) (bit ∷ bits) held =
    let both = both_true (character_holds c bit) (row_holds cs bits) held in
    (plane_character c bit both.0, held_plane cs bits both.1)

-- what holds of some item and of none but one holds of that one
only_here : {X : Type 0} (test : X → Bool) (xs : List X) (k : ℕ) (d : X) → k < length xs → list_any test xs ≡ true → (list_any test (remove xs k) ≡ true → ⊥) → test (get_or xs k d) ≡ true
only_here test [] k d lt some none = absurd (omega arith)
only_here test (x ∷ xs) zero d lt some none = by (test x) some none
  where
    by : (b : Bool) → (b || list_any test xs) ≡ true → (list_any test xs ≡ true → ⊥) → b ≡ true
    by true some none = refl
    by false some none = absurd (none some)
only_here test (x ∷ xs) (suc k) d lt some none = by (test x) some none (only_here test xs k d (omega arith))
  where
    by : (b : Bool) → (b || list_any test xs) ≡ true → ((b || list_any test (remove xs k)) ≡ true → ⊥) → (list_any test xs ≡ true → (list_any test (remove xs k) ≡ true → ⊥) → test (get_or xs k d) ≡ true)
        → test (get_or xs k d) ≡ true
    by true some none rest = absurd (none refl)
    by false some none rest = rest some none

-- each row of a good cover holds some values, so it is a plane
pub cover_planes : (On Off : List Bool → Type 0) (rows : List (List ℕ)) → IsGoodCover On Off rows → All (λ row. AllByRecursion (λ c. IsTrue (is_plane_character c)) row) rows
cover_planes On Off rows good k d lt =
    let needed = good.rows_needed k lt in
    held_plane (get_or rows k d) needed.0
    (only_here (λ (row : List ℕ). row_holds row needed.0) rows k d lt (good.on_held needed.0 needed.1) needed.2)

-- ---- the network
-- names at numbers below their count
named_at : (names : List (List ℕ)) (count : ℕ) (numbers : List ℕ) → length names ≡ count → All IsSignalName names → All (λ a. a < count) numbers → All IsSignalName (map (name_at names) numbers)
named_at names count numbers counts are within = All-map IsSignalName (name_at names) numbers (λ k d lt. are (get_or numbers k d) [] (omega (arith, within k d lt, counts)))

module _ (F : KissFile) (bits : ℕ) (words : List ℕ) (reads : Reads) (names : SignalNames) (N : Network) (counted : AreCounted F bits names) (enough : AreEnough F bits words reads) (real : IsRealised F bits words reads names N) where
  gate_inputs : AreSignalNames names → (gate : Gate) → IsSomeGate F bits words names gate → All IsSignalName gate.inputs
  gate_inputs are gate some =
      All-same IsSignalName gate.inputs (map (name_at names.inputs) some.set.inputs ++ map (name_at names.latch_outputs) some.set.latches) some.is.inputs
      (All-append IsSignalName (map (name_at names.inputs) some.set.inputs) (map (name_at names.latch_outputs) some.set.latches)
      (named_at names.inputs F.inputs some.set.inputs counted.inputs are.inputs some.within.inputs_within)
      (named_at names.latch_outputs bits some.set.latches counted.latch_outputs are.latch_outputs some.within.latches_within))

  gate_rows : (gate : Gate) → IsSomeGate F bits words names gate → All (IsPlane (length gate.inputs)) gate.rows
  gate_rows gate some k d lt = record { characters = cover_planes _ _ gate.rows some.is.cover k d lt; width = some.is.widths k d lt }

  driven_are_names : AreSignalNames names → All (λ gate. IsSignalName gate.output) N.gates
  driven_are_names are =
      all_from_map IsSignalName (λ (gate : Gate). gate.output) N.gates
      (All-same IsSignalName (driven_by N.gates) (names.latch_inputs ++ names.outputs) (driven_names F bits words reads names N counted enough real)
      (All-append IsSignalName names.latch_inputs names.outputs are.latch_inputs are.outputs))

  gates_writable : AreSignalNames names → All IsWritableGate N.gates
  gates_writable are k d lt =
      let gate : Gate = get_or N.gates k d in
      let some : IsSomeGate F bits words names gate = each_gate F bits words reads names N counted enough real k d lt in
      record {
        inputs = recursion_from_All IsSignalName gate.inputs (gate_inputs are gate some);
        output = driven_are_names are k d lt;
        rows = recursion_from_All (IsPlane (length gate.inputs)) gate.rows (gate_rows gate some);
        on = some.is.on;
      }

  latches_writable : AreSignalNames names → All IsWritableLatch N.latches
  latches_writable are k d lt = record {
    input =
        all_from_map IsSignalName (λ (latch : Latch). latch.input) N.latches (All-same IsSignalName (map (λ latch. latch.input) N.latches) names.latch_inputs real.latch_inputs are.latch_inputs) k d lt;
    output =
        all_from_map IsSignalName (λ (latch : Latch). latch.output) N.latches (All-same IsSignalName (map (λ latch. latch.output) N.latches) names.latch_outputs real.latch_outputs are.latch_outputs) k d lt;
  }

  -- the network can be written
  pub writable : AreSignalNames names → IsWritable N
  writable are = record {
    inputs = recursion_from_All IsSignalName N.inputs (All-same IsSignalName N.inputs names.inputs real.inputs are.inputs);
    outputs = recursion_from_All IsSignalName N.outputs (All-same IsSignalName N.outputs names.outputs real.outputs are.outputs);
    latches = recursion_from_All IsWritableLatch N.latches (latches_writable are);
    gates = recursion_from_All IsWritableGate N.gates (gates_writable are);
  }

  -- the rows of each gate stand in order
  pub rows_in_order : HasRowsInOrder N
  rows_in_order =
      let InOrder : Gate → Type 0 = λ gate. IsSorted (slice_cmp nat_cmp) gate.rows in
      recursion_from_All InOrder N.gates (All-weaker (IsSomeGate F bits words names) InOrder (λ gate some. some.is.in_order) N.gates (each_gate F bits words reads names N counted enough real))

-- ---- starts
-- a start with a bit is known
known_start : (start : Start) (b : Bool) → bit_of_start start ≡ Some b → (start ≡ Zero) ⊎ (start ≡ One)
known_start Zero b is = inl refl
known_start One b is = inr refl
known_start Free b is = cc
known_start Unknown b is = cc

-- each latch starts at 0 or at 1
pub known_starts : (latches : List Latch) (bits : List Bool) → AreStarts latches bits → AllByRecursion (λ latch. (latch.start ≡ Zero) ⊎ (latch.start ≡ One)) latches
known_starts [] bits are = tt
known_starts (latch ∷ latches) [] are = cc
known_starts (latch ∷ latches) (b ∷ bits) are =
    let here : bit_of_start latch.start ≡ Some b = cc in
    let rest : map (λ (l : Latch). bit_of_start l.start) latches ≡ map Some bits = cc in
    (known_start latch.start b here, known_starts latches bits rest)

-- ---- the names of the states
-- a state's name stands as a field
plain_field : (name : List ℕ) → IsPlainName name → IsPlainField name
plain_field name is = record {
  some = is.some;
  visible = recursion_from_All IsFieldByte name is.visible;
}

-- the names of the states stand as fields
pub plain_fields : (F : KissFile) → IsLawful F → ArePlainFields F.states
plain_fields F lawful = recursion_from_All IsPlainField F.states (All-weaker IsPlainName IsPlainField plain_field F.states lawful.state_names)
