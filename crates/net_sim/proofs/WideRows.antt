-- Wide rows, piece by piece.
use Rattle.std.proofs.Common.{◌≡◌, ℕ, zero, suc, ◌+◌, ◌-◌, ◌^◌, ◌<◌, ◌≤◌, ◌&&◌, ◌||◌, min, inl, inr, All, Bool, true, false, List, [], ◌∷◌, ◌++◌, append_assoc, append-nil, length, length-drop, length-take, take, drop, drop_of_length-le, get_or, set, add-one, Some, None, refl, sym, ◌∙◌, ap, subst, arith}
use Rattle.std.specs.List.{list_any}
use Rattle.std.proofs.lemmas.Bool.{cases_lt}
use Rattle.std.proofs.lemmas.List.{drop-map, take-map, take_all}
use Rattle.std.proofs.lemmas.List.Elements.{All-head, All-tail}
use Rattle.std.proofs.lemmas.List.Folds.{list_any-append}
use Rattle.cubes.specs.declared.cube.Cube.{Cube}
use Rattle.cubes.specs.Cube.{holds, text_of}
use Rattle.cubes.specs.Symbol.{number_of, symbol_of}
use Rattle.cubes.specs.Laws.Numbers.{number_below, symbol_of-number_of}
use Rattle.net_core.specs.Step.{character_holds, row_holds}
use Rattle.net_core.specs.declared.gate_order.NumberedGate.{NumberedGate}
use Rattle.net_sim.specs.Inner.GateValues.{bits_at}
use Rattle.net_sim.specs.Inner.Pieces.{AreBelow, AreNumbersOf, ArePieces, HasCut, HaveNumbered, HaveWidths, IsWide, numbers_hold, pieces_hold}
use Rattle.net_sim.proofs.FormValues.{count_bits, cube_of_row, or_none}

-- a row holds bits if its two parts hold theirs
pub row_split : (n : ℕ) (row : List ℕ) (bits : List Bool) → length bits ≡ length row → row_holds row bits ≡ (row_holds (take n row) (take n bits) && row_holds (drop n row) (drop n bits))
row_split zero row bits same = refl
row_split (suc n) [] [] same = refl
row_split (suc n) [] (b ∷ bs) same = absurd (omega arith)
row_split (suc n) (c ∷ cs) [] same = absurd (omega arith)
row_split (suc n) (c ∷ cs) (b ∷ bs) same =
    elim (character_holds c b) as (λ x. (x && row_holds cs bs) ≡ ((x && row_holds (take n cs) (take n bs)) && row_holds (drop n cs) (drop n bs))) [
      | true ↦ row_split n cs bs (omega (arith, same))
      | false ↦ refl
    ]

pub take_least : {X : Type 0} (xs : List X) → take (min (length xs) 32) xs ≡ take 32 xs
take_least xs =
    elim (cases_lt 32 (length xs)) [
      | inl longer ↦ let size : min (length xs) 32 ≡ 32 = omega (arith, longer) in ap (λ k. take k xs) size
      | inr short ↦
          let size : min (length xs) 32 ≡ length xs = omega (arith, short) in
          ap (λ k. take k xs) size ∙ (take_all (length xs) xs (omega arith) ∙ sym (take_all 32 xs short))
    ]

pub drop_least : {X : Type 0} (xs : List X) → drop (min (length xs) 32) xs ≡ drop 32 xs
drop_least xs =
    elim (cases_lt 32 (length xs)) [
      | inl longer ↦ let size : min (length xs) 32 ≡ 32 = omega (arith, longer) in ap (λ k. drop k xs) size
      | inr short ↦
          let size : min (length xs) 32 ≡ length xs = omega (arith, short) in
          let all : length xs ≤ length xs = omega arith in
          ap (λ k. drop k xs) size ∙ (drop_of_length-le xs all ∙ sym (drop_of_length-le xs short))
    ]

pub cut_begun : (row : List ℕ) → HasCut row row []
cut_begun row = record { widths = λ others h. h; held = λ others right. right; none = λ none. none }

and_false : (a b : Bool) → b ≡ false → (a && b) ≡ false
and_false true b h = h
and_false false b h = refl

module _ (row rest : List ℕ) (cubes : List Cube) (cut : HasCut row rest cubes) where
  pub cut_more : (cube : Cube) → 0 < length rest → cube.width ≡ min (length rest) 32 → take 32 rest ≡ text_of cube → HasCut row (drop 32 rest) (cubes ++ cube ∷ [])
  cut_more cube some wide spelled =
      record {
        widths = λ others h.
            subst (HaveWidths (length row)) (sym (append_assoc cubes (cube ∷ []) others))
            (cut.widths (cube ∷ others) (some, wide, subst (λ n. HaveWidths n others) (length-drop 32 rest) h));
        held = λ others right symbol same.
            ap (λ list. pieces_hold list symbol) (append_assoc cubes (cube ∷ []) others)
            ∙ cut.held (cube ∷ others)
            (λ bits long.
            ap (λ b. b && pieces_hold others (drop 32 bits)) (sym (cube_of_row cube (take 32 rest) (take 32 bits) spelled))
            ∙ (ap (λ b. row_holds (take 32 rest) (take 32 bits) && b) (right (drop 32 bits) (length-drop 32 bits ∙ (ap (λ n. n - 32) long ∙ sym (length-drop 32 rest)))) ∙ sym (row_split 32 rest bits long)))
            symbol same;
        none = λ none symbol same.
            cut.none
            (λ bits long.
            row_split 32 rest bits long
            ∙ and_false (row_holds (take 32 rest) (take 32 bits)) _ (none (drop 32 bits) (length-drop 32 bits ∙ (ap (λ n. n - 32) long ∙ sym (length-drop 32 rest)))))
            symbol same;
      }

  pub cut_bad : ((bits : List Bool) → length bits ≡ min (length rest) 32 → row_holds (take 32 rest) bits ≡ false) → ArePieces row None
  cut_bad bad symbol same =
      cut.none
      (λ bits long.
      row_split 32 rest bits long
      ∙ ap (λ b. b && row_holds (drop 32 rest) (drop 32 bits)) (bad (take 32 bits) (omega (arith, length-take 32 bits, long))))
      symbol same

empty_held : (rest : List ℕ) (bits : List Bool) → length rest ≡ 0 → length bits ≡ length rest → pieces_hold [] bits ≡ row_holds rest bits
empty_held [] [] none same = refl
empty_held [] (b ∷ bs) none same = absurd (omega arith)
empty_held (c ∷ cs) bits none same = absurd (omega arith)

pub cut_done : (row rest : List ℕ) (cubes : List Cube) → HasCut row rest cubes → length rest ≡ 0 → ArePieces row (Some cubes)
cut_done row rest cubes cut none =
    subst (λ list. HaveWidths (length row) list × ((symbol : List Bool) → length symbol ≡ length row → pieces_hold list symbol ≡ row_holds row symbol)) (append-nil cubes)
    (cut.widths [] none, cut.held [] (λ bits same. empty_held rest bits none same))

-- one more row
pub held_with : (rows : List (List Cube)) (cubes : List Cube) (row : List ℕ) (width : ℕ) → length row ≡ width → ArePieces row (Some cubes) → (symbol : List Bool) → length symbol ≡ width
    → list_any (λ cubes. pieces_hold cubes symbol) (rows ++ cubes ∷ []) ≡ (list_any (λ cubes. pieces_hold cubes symbol) rows || row_holds row symbol)
held_with rows cubes row width wide pieces symbol same =
    list_any-append (λ cubes. pieces_hold cubes symbol) rows (cubes ∷ [])
    ∙ ap (λ b. list_any (λ cubes. pieces_hold cubes symbol) rows || b) (or_none (pieces_hold cubes symbol) ∙ pieces.1 symbol (same ∙ sym wide))

-- the numbers of the bits hold what the bits do
pub hold_alike : (cubes : List Cube) (bits : List Bool) (numbers : List ℕ) → HaveWidths (length bits) cubes → AreNumbersOf bits numbers → numbers_hold cubes numbers ≡ pieces_hold cubes bits
hold_alike [] [] numbers widths are = refl
hold_alike [] (b ∷ bs) numbers widths are = absurd (omega (arith, widths))
hold_alike (cube ∷ cubes) bits [] widths are = absurd (omega (arith, are, widths.0))
hold_alike (cube ∷ cubes) bits (n ∷ ns) (some, wide, widths) (is, are) =
    let piece : List Bool = take 32 bits in
    let width : cube.width ≡ length piece = omega (arith, wide, length-take 32 bits) in
    let symbol : symbol_of cube.width n ≡ piece = ap (λ w. symbol_of w n) width ∙ (ap (symbol_of (length piece)) is ∙ symbol_of-number_of piece) in
    ap (λ s. holds cube s && numbers_hold cubes ns) symbol
    ∙ ap (λ b. holds cube piece && b) (hold_alike cubes (drop 32 bits) ns (subst (λ k. HaveWidths k cubes) (sym (length-drop 32 bits)) widths) are)

pub below_alike : (cubes : List Cube) (bits : List Bool) (numbers : List ℕ) → HaveWidths (length bits) cubes → AreNumbersOf bits numbers → AreBelow cubes numbers
below_alike [] bits numbers widths are = tt
below_alike (cube ∷ cubes) bits [] widths are = absurd (omega (arith, are, widths.0))
below_alike (cube ∷ cubes) bits (n ∷ ns) (some, wide, widths) (is, are) =
    let piece : List Bool = take 32 bits in
    let width : cube.width ≡ length piece = omega (arith, wide, length-take 32 bits) in (
      subst (λ w. n < 2 ^ w) (sym width) (subst (λ k. k < 2 ^ length piece) (sym is) (number_below piece)),
      below_alike cubes (drop 32 bits) ns (subst (λ k. HaveWidths k cubes) (sym (length-drop 32 bits)) widths) are,
    )

module _ (bits : List Bool) (numbers : List ℕ) (are : AreNumbersOf bits numbers) where
  pub some_alike : (rows : List (List Cube)) → All (HaveWidths (length bits)) rows → list_any (λ cubes. numbers_hold cubes numbers) rows ≡ list_any (λ cubes. pieces_hold cubes bits) rows
  some_alike [] all = refl
  some_alike (row ∷ rows) all =
      ap (λ b. b || list_any (λ cubes. numbers_hold cubes numbers) rows) (hold_alike row bits numbers (All-head (HaveWidths (length bits)) row rows all) are)
      ∙ ap (λ b. pieces_hold row bits || b) (some_alike rows (All-tail (HaveWidths (length bits)) row rows all))

  pub all_below : (rows : List (List Cube)) → All (HaveWidths (length bits)) rows → All (λ cubes. AreBelow cubes numbers) rows
  all_below rows all = λ k d lt. below_alike (get_or rows k d) bits numbers (all k d lt) are

-- the pieces of a gate's rows at the signals
module _ (gate : NumberedGate) (rows : List (List Cube)) (signals : List Bool) (wide : IsWide gate rows) (numbers : List ℕ) (are : AreNumbersOf (bits_at signals gate.inputs.items) numbers) where
  abbrev bits : List Bool
  bits = bits_at signals gate.inputs.items

  widths : All (HaveWidths (length bits)) rows
  widths = subst (λ n. All (HaveWidths n) rows) (sym (count_bits signals gate.inputs.items)) wide.widths

  pub below_there : All (λ cubes. AreBelow cubes numbers) rows
  below_there = all_below bits numbers are rows widths

  pub held_there : list_any (λ cubes. numbers_hold cubes numbers) rows ≡ list_any (λ row. row_holds row bits) gate.rows
  held_there = some_alike bits numbers are rows widths ∙ wide.held bits (count_bits signals gate.inputs.items)

-- the numbers, piece by piece
pub numbered_more : (bits rest : List Bool) (numbers : List ℕ) (number : ℕ) → HaveNumbered bits rest numbers → number ≡ number_of (take 32 rest) → HaveNumbered bits (drop 32 rest) (numbers ++ number ∷ [])
numbered_more bits rest numbers number numbered is others h =
    subst (AreNumbersOf bits) (sym (append_assoc numbers (number ∷ []) others)) (numbered (number ∷ others) (is, h))

pub numbered_done : (bits rest : List Bool) (numbers : List ℕ) → HaveNumbered bits rest numbers → length rest ≡ 0 → AreNumbersOf bits numbers
numbered_done bits rest numbers numbered none = subst (AreNumbersOf bits) (append-nil numbers) (numbered [] none)

pub bits_taken : (signals : List Bool) (inputs : List ℕ) → bits_at signals (take 32 inputs) ≡ take 32 (bits_at signals inputs)
bits_taken signals inputs = sym (take-map (λ s. get_or signals s false) 32 inputs)

pub bits_dropped : (signals : List Bool) (inputs : List ℕ) → bits_at signals (drop 32 inputs) ≡ drop 32 (bits_at signals inputs)
bits_dropped signals inputs = sym (drop-map (λ s. get_or signals s false) 32 inputs)

-- the list up to a place that was written
taken_suc : (numbers : List ℕ) (place number : ℕ) → place < length numbers → take (suc place) (set numbers place number) ≡ take place numbers ++ number ∷ []
taken_suc [] place number lt = absurd (omega arith)
taken_suc (n ∷ ns) zero number lt = refl
taken_suc (n ∷ ns) (suc place) number lt = ap (λ list. n ∷ list) (taken_suc ns place number (omega arith))

pub taken_set : (numbers : List ℕ) (place number : ℕ) → place < length numbers → take (place + 1) (set numbers place number) ≡ take place numbers ++ number ∷ []
taken_set numbers place number lt = ap (λ k. take k (set numbers place number)) (add-one place) ∙ taken_suc numbers place number lt
