-- Labels as decimal numbers without leading zeros.
use Rattle.std.proofs.Common.{◌≡◌, ◌≢◌, ℕ, ◌^◌, ◌<◌, List, Result, Ok, length, get_or, sym, ap, ◌∙◌, subst, inl, inr, arith}
use Rattle.std.proofs.lemmas.Bool.{cases_eq}
use Rattle.std.proofs.lemmas.Fmt.{decimal_digit, decimal_nonempty, first_decimal, digits_decimal, decimal-digits_value, parse-decimal, IsAscii-decimal}
use Rattle.std.proofs.lemmas.Str.{IsUtf8-from_ascii}
use Rattle.std.proofs.lemmas.Str.Parse.{IsNumeralModel, numerals_by_value, tells_digits, parse_plain, digit_at}
use Rattle.std.proofs.lemmas.Result.{OkIff-at_ok}
use Rattle.std.specs.Fmt.{decimal}
use Rattle.std.specs.Str.{IsUtf8}
use Rattle.std.specs.Str.Parse.{ParsesUnsigned, AllDigits, digits_value}
use Rattle.partition.specs.Numerals.{IsPlain}

pub own : IsNumeralModel (AllDigits 10) (digits_value 10)
own = numerals_by_value (AllDigits 10) tells_digits

-- what a label writes is plain
pub IsPlain-decimal : (label : ℕ) → label < 2 ^ 64 → IsPlain (decimal label)
IsPlain-decimal label small =
    elim (cases_eq label 0) [
      | inl none ↦ inl (ap decimal none ∙ decimal_digit 0 (omega arith))
      | inr some ↦ let digits : AllDigits 10 (decimal label) = digits_decimal own label small in
          inr (first_decimal label (omega arith) small, (digit_at (decimal label) 0 digits (decimal_nonempty label small)).1)
    ]

-- what is plain and read as a label is what the label writes
pub decimal-of_plain : {E : Type 0} (piece : List ℕ) (r : Result ℕ E) (label : ℕ) → ParsesUnsigned 64 10 piece r → IsPlain piece → r ≡ Ok label → piece ≡ decimal label
decimal-of_plain {E} piece r label parses plain is =
    let reads = OkIff-at_ok r (AllDigits 10 piece × (0 < length piece) × (digits_value 10 piece < 2 ^ 64)) (digits_value 10 piece) label (parse_plain own 64 piece r parses (no_plus plain)) is in
    sym (ap decimal reads.1 ∙ decimal-digits_value own piece reads.0.0 reads.0.1 (one plain) reads.0.2)
  where
    no_plus : IsPlain piece → get_or piece 0 0 ≢ 43
    no_plus (inl digit) = λ plus. absurd (omega (arith, ap (λ (bs : List ℕ). get_or bs 0 0) digit))
    no_plus (inr first) = λ plus. absurd (omega arith)

    one : IsPlain piece → get_or piece 0 0 ≡ 48 → length piece ≡ 1
    one (inl digit) begins = ap length digit
    one (inr first) begins = absurd (omega arith)

-- what a label writes is read as it
pub reads-decimal : {E : Type 0} (piece : List ℕ) (r : Result ℕ E) (label : ℕ) → label < 2 ^ 64 → ParsesUnsigned 64 10 piece r → piece ≡ decimal label → r ≡ Ok label
reads-decimal piece r label small parses is = parse-decimal 64 label piece r small small is parses

pub IsUtf8-decimal : (piece : List ℕ) (label : ℕ) → label < 2 ^ 64 → piece ≡ decimal label → IsUtf8 piece
IsUtf8-decimal piece label small is = subst IsUtf8 (sym is) (IsUtf8-from_ascii (decimal label) (IsAscii-decimal label small))

-- no digit is a comma
pub no_comma : (label : ℕ) → label < 2 ^ 64 → (i : ℕ) → i < length (decimal label) → get_or (decimal label) i 0 ≢ 44
no_comma label small i within comma = absurd (omega (arith, (digit_at (decimal label) i (digits_decimal own label small) within).0))
