-- What is written of a lawful record is read back: its lines, and what stands in their fields.
use Rattle.std.proofs.Common.{◌≡◌, ◌≢◌, ℕ, ◌+◌, ◌<◌, ◌^◌, true, false, not, cond, leb, ◌&&◌, List, [], ◌∷◌, length, map, ap, sym, ◌∙◌, refl, arith}
use Rattle.std.specs.Char.{digit_value, is_ascii_digit}
use Rattle.std.specs.Fmt.{decimal}
use Rattle.std.specs.List.{AllByRecursion, list_all}
use Rattle.std.specs.Str.Parse.{AllDigits}
use Rattle.std.proofs.lemmas.Bool.{and_from, le-leb}
use Rattle.std.proofs.lemmas.Bool.Decides.{nat_tests}
use Rattle.std.proofs.lemmas.Fmt.{decimal_is_IsNumeral, decimal_nonempty, length-decimal-le}
use Rattle.std.proofs.lemmas.List.Folds.{flat_map-map}
use Rattle.std.proofs.lemmas.List.Sums.{take_while-cons}
use Rattle.hs_io.specs.declared.lines.Line.{Line}
use Rattle.hs_io.specs.Lines.{lines_from, lines_of}
use Rattle.hs_io.specs.Spelling.{ArePlainFields, IsFieldByte, IsPlainField, ended, line_text, spelled}
use Rattle.hs_io.specs.Laws.Spelled.{IsLineByte, line_bytes, line_of-fields, physical_lines-all}
use Rattle.kiss2.specs.Kiss.{before_end}
use Rattle.kiss2.specs.Words.{is_decimal, decimal_value, is_ending}

-- lines of these fields, numbered from that number on
abbrev pub numbered : ℕ → List (List (List ℕ)) → List Line
numbered n [] = []
numbered n (fields ∷ more) = record { number = n; fields = fields; bad = false } ∷ numbered (n + 1) more

no_end_byte : (text : List ℕ) → AllByRecursion IsLineByte text → AllByRecursion (λ b. b ≢ 10) text
no_end_byte [] h = tt
no_end_byte (b ∷ bs) (h, hs) = ((λ e. absurd (omega (arith, h.low))), no_end_byte bs hs)

texts_once : (lines : List (List (List ℕ))) → AllByRecursion ArePlainFields lines → AllByRecursion (AllByRecursion (λ b. b ≢ 10)) (map line_text lines)
texts_once [] h = tt
texts_once (fields ∷ lines) (h, hs) = (no_end_byte (line_text fields) (line_bytes fields h), texts_once lines hs)

read_lines : (n : ℕ) (lines : List (List (List ℕ))) → AllByRecursion ArePlainFields lines → lines_from n (map line_text lines) ≡ numbered n lines
read_lines n [] h = refl
read_lines n (fields ∷ lines) (h, hs) = ap (λ l. l ∷ lines_from (n + 1) (map line_text lines)) (line_of-fields n fields h) ∙ ap (λ ls. record { number = n; fields = fields; bad = false } ∷ ls) (read_lines (n + 1) lines hs)

-- the lines of what is spelled
pub lines_of-spelled : (lines : List (List (List ℕ))) → AllByRecursion ArePlainFields lines → lines_of (spelled lines) ≡ numbered 1 lines
lines_of-spelled lines h =
    ap lines_of (sym (flat_map-map ended line_text lines))
    ∙ (ap (lines_from 1) (physical_lines-all (map line_text lines) (texts_once lines h)) ∙ read_lines 1 lines h)

-- a line that does not end the text
pub before_end-cons : (line : Line) (lines : List Line) → is_ending line ≡ false → before_end (line ∷ lines) ≡ line ∷ before_end lines
before_end-cons line lines going =
    take_while-cons (λ l. not (is_ending l)) line lines ∙ ap (λ t. cond (not t) (line ∷ before_end lines) []) going

-- decimal digits
digit_test : (c : ℕ) → digit_value c < 10 → is_ascii_digit c ≡ true
digit_test c lt = grind (arith, nat_tests)

digits_test : (ds : List ℕ) → AllDigits 10 ds → list_all is_ascii_digit ds ≡ true
digits_test [] h = refl
digits_test (d ∷ ds) (h, hs) = and_from (is_ascii_digit d) (list_all is_ascii_digit ds) (digit_test d h) (digits_test ds hs)

pub decimal_read : (n : ℕ) → n < 10 ^ 9 → (is_decimal (decimal n) ≡ true) × (decimal_value (decimal n) ≡ n)
decimal_read n small =
    let fits : n < 2 ^ 64 = omega arith in
    let numeral = decimal_is_IsNumeral n fits in
    let some = decimal_nonempty n fits in
    let short = length-decimal-le 9 n (omega arith) small fits in (
      and_from (leb 1 (length (decimal n)) && leb (length (decimal n)) 9) (list_all is_ascii_digit (decimal n))
          (and_from (leb 1 (length (decimal n))) (leb (length (decimal n)) 9) (le-leb 1 (length (decimal n)) some) (le-leb (length (decimal n)) 9 short))
          (digits_test (decimal n) numeral.0.1),
      numeral.1,
    )

digit_byte : (c : ℕ) → digit_value c < 10 → IsFieldByte c
digit_byte c lt = record { low = grind (arith, nat_tests); high = grind (arith, nat_tests); no_comment = grind (arith, nat_tests) }

digit_bytes : (ds : List ℕ) → AllDigits 10 ds → AllByRecursion IsFieldByte ds
digit_bytes [] h = tt
digit_bytes (d ∷ ds) (h, hs) = (digit_byte d h, digit_bytes ds hs)

pub decimal_plain : (n : ℕ) → n < 10 ^ 9 → IsPlainField (decimal n)
decimal_plain n small =
    let fits : n < 2 ^ 64 = omega arith in
    record { some = decimal_nonempty n fits; visible = digit_bytes (decimal n) (decimal_is_IsNumeral n fits).0.1 }
