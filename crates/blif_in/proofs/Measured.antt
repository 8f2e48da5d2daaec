-- The fields of a text are no longer than it, also where lines are joined.
use Rattle.std.proofs.Common.{◌≡◌, ℕ, suc, ◌+◌, ◌-◌, ◌<◌, ◌≤◌, ◌^◌, Bool, true, false, cond, eqb, not, List, [], ◌∷◌, ◌++◌, length, get_or, take, All, sym, ◌∙◌, refl, ap, arith}
use Rattle.std.specs.Prelude.{filter, take_while}
use Rattle.std.specs.List.{AllByRecursion, onto_first, position_or_len, slice_split}
use Rattle.std.specs.Str.Lines.{strip_carriage_return}
use Rattle.std.proofs.lemmas.List.{length-take}
use Rattle.std.proofs.lemmas.List.Elements.{All-from_recursion}
use Rattle.std.proofs.lemmas.List.Sums.{take_while-cons}
use Rattle.list_facts.specs.Laws.Everywhere.{each_weaker}
use Rattle.hs_io.specs.declared.lines.Line.{Line}
use Rattle.hs_io.specs.Lines.{begins_comment, content, ends_line, fields_of, is_blank, is_field, is_skipped, lines_from, lines_of, lines_of_pieces, physical_lines}
use Rattle.net_core.specs.JoinedLines.{ends_text, in_front, is_continued, joined, part_of, read_fields, without_backslash}
use Rattle.net_core.specs.Statements.{statements_of}
use Rattle.blif_in.specs.Inner.JoinedLines.{lines_read, statement_lines}
use Rattle.blif_in.specs.Inner.ShortFields.{AreMeasurable}
use Rattle.blif_in.specs.Inner.LineStatements.{numbered}

abbrev Short : ℕ → List ℕ → Type 0
Short most text = length text ≤ most

abbrev AreShort : ℕ → List (List ℕ) → Type 0
AreShort most texts = AllByRecursion (Short most) texts

longer : (most more : ℕ) (texts : List (List ℕ)) → most ≤ more → AreShort most texts → AreShort more texts
longer most more texts le h = each_weaker (Short most) (Short more) (λ text short. omega arith) texts h

onto : (most b : ℕ) (parts : List (List ℕ)) → AreShort most parts → AreShort (suc most) (onto_first b parts)
onto most b [] h = (omega arith, tt)
onto most b (part ∷ parts) (h, hs) = (omega arith, longer most (suc most) parts (omega arith) hs)

-- the parts of a text that is cut
parts_short : (p : ℕ → Bool) (bytes : List ℕ) → AreShort (length bytes) (slice_split p bytes)
parts_short p [] = (omega arith, tt)
parts_short p (b ∷ bytes) = by (p b) (parts_short p bytes) where
  by : (cuts : Bool) → AreShort (length bytes) (slice_split p bytes) → AreShort (suc (length bytes)) (cond cuts ([] ∷ slice_split p bytes) (onto_first b (slice_split p bytes)))
  by true rest = (omega arith, longer (length bytes) (suc (length bytes)) (slice_split p bytes) (omega arith) rest)
  by false rest = onto (length bytes) b (slice_split p bytes) rest

filter_short : (most : ℕ) (p : List ℕ → Bool) (texts : List (List ℕ)) → AreShort most texts → AreShort most (filter p texts)
filter_short most p [] h = tt
filter_short most p (text ∷ texts) (h, hs) = by (p text) (filter_short most p texts hs) where
  by : (kept : Bool) → AreShort most (filter p texts) → AreShort most (cond kept (text ∷ filter p texts) (filter p texts))
  by true rest = (h, rest)
  by false rest = rest

pieces_short : (most : ℕ) (pieces : List (List ℕ)) → AreShort most pieces → AreShort most (lines_of_pieces pieces)
pieces_short most [] h = tt
pieces_short most (piece ∷ []) (h, hs) = by (eqb (length piece) 0) where
  by : (empty : Bool) → AreShort most (cond empty [] (piece ∷ []))
  by true = tt
  by false = (h, tt)
pieces_short most (piece ∷ next ∷ more) (h, hs) = (h, pieces_short most (next ∷ more) hs)

content_short : (line : List ℕ) → length (content line) ≤ length line
content_short line =
    let text = strip_carriage_return line in
    let stripped : length text ≤ length line = strip (eqb (get_or line (length line - 1) 0) 13) in
    omega (arith, length-take (position_or_len begins_comment text) text) where
      strip : (returns : Bool) → length (cond returns (take (length line - 1) line) line) ≤ length line
      strip true = omega (arith, length-take (length line - 1) line)
      strip false = omega arith

-- lines whose fields are short
abbrev HasShort : ℕ → Line → Type 0
HasShort most line = AreShort most line.fields

lines_short : (number most : ℕ) (lines : List (List ℕ)) → AreShort most lines → AllByRecursion (HasShort most) (lines_from number lines)
lines_short number most [] h = tt
lines_short number most (line ∷ lines) (h, hs) = (
  longer (length (content line)) most (fields_of (content line)) (omega (arith, content_short line, h)) (filter_short (length (content line)) is_field (slice_split is_blank (content line)) (parts_short is_blank (content line))),
  lines_short (number + 1) most lines hs,
)

without_short : (most : ℕ) (fields : List (List ℕ)) → AreShort most fields → AreShort most (without_backslash fields)
without_short most [] h = tt
without_short most (field ∷ []) (h, hs) = filter_short most is_field (take (length field - 1) field ∷ []) (omega (arith, h, length-take (length field - 1) field), tt)
without_short most (field ∷ next ∷ more) (h, hs) = (h, without_short most (next ∷ more) hs)

read_short : (most : ℕ) (fields : List (List ℕ)) → AreShort most fields → AreShort most (read_fields fields)
read_short most fields h = by (is_continued fields) where
  by : (goes_on : Bool) → AreShort most (cond goes_on (without_backslash fields) fields)
  by true = without_short most fields h
  by false = h

appended : (most : ℕ) (xs ys : List (List ℕ)) → AreShort most xs → AreShort most ys → AreShort most (xs ++ ys)
appended most [] ys h k = k
appended most (x ∷ xs) ys (h, hs) k = (h, appended most xs ys hs k)

front_short : (most : ℕ) (part : Line) (lines : List Line) → HasShort most part → AllByRecursion (HasShort most) lines → AllByRecursion (HasShort most) (in_front part lines)
front_short most part [] h hs = (h, tt)
front_short most part (line ∷ lines) h (k, ks) = (appended most part.fields line.fields h k, ks)

joined_short : (most : ℕ) (lines : List Line) → AllByRecursion (HasShort most) lines → AllByRecursion (HasShort most) (joined lines)
joined_short most [] h = tt
joined_short most (line ∷ lines) (h, hs) = by (is_continued line.fields) (joined_short most lines hs) where
  by : (goes_on : Bool) → AllByRecursion (HasShort most) (joined lines) → AllByRecursion (HasShort most) (cond goes_on (in_front (part_of line) (joined lines)) (part_of line ∷ joined lines))
  by true rest = front_short most (part_of line) (joined lines) (read_short most line.fields h) rest
  by false rest = (read_short most line.fields h, rest)

kept_short : (most : ℕ) (lines : List Line) → AllByRecursion (HasShort most) lines → AllByRecursion (HasShort most) (statement_lines lines)
kept_short most [] h = tt
kept_short most (line ∷ lines) (h, hs) = by (ends_text line) (is_skipped line) (kept_short most lines hs) where
  by : (ends skipped : Bool) → AllByRecursion (HasShort most) (statement_lines lines) → AllByRecursion (HasShort most) (cond ends [] (cond skipped (statement_lines lines) (line ∷ statement_lines lines)))
  by true skipped rest = tt
  by false true rest = rest
  by false false rest = (h, rest)

-- the fields of the statements of a text that can be measured can be measured
pub statements_measurable : (bytes : List ℕ) → length bytes < 2 ^ 32 → All (λ line. AreMeasurable line.fields) (lines_read bytes)
statements_measurable bytes short =
    All-from_recursion (λ line. AreMeasurable line.fields) (statement_lines (joined (lines_of bytes)))
    (each_weaker (HasShort (length bytes)) (λ line. AreMeasurable line.fields)
    (λ line h. All-from_recursion (λ field. length field < 2 ^ 32) line.fields (each_weaker (Short (length bytes)) (λ field. length field < 2 ^ 32) (λ field le. omega arith) line.fields h))
    (statement_lines (joined (lines_of bytes)))
    (kept_short (length bytes) (joined (lines_of bytes))
    (joined_short (length bytes) (lines_of bytes)
    (lines_short 1 (length bytes) (physical_lines bytes) (pieces_short (length bytes) (slice_split ends_line bytes) (parts_short ends_line bytes))))))

-- the lines of the statements, as the definition of statements takes them
lines_are : (lines : List Line) → statement_lines lines ≡ filter (λ line. not (is_skipped line)) (take_while (λ line. not (ends_text line)) lines)
lines_are [] = refl
lines_are (line ∷ lines) =
    by (ends_text line) (lines_are lines)
    ∙ ap (filter (λ l. not (is_skipped l))) (sym (take_while-cons (λ l. not (ends_text l)) line lines)) where
      kept : (skipped : Bool) (rest more : List Line) → rest ≡ more → cond skipped rest (line ∷ rest) ≡ cond (not skipped) (line ∷ more) more
      kept true rest more same = same
      kept false rest more same = ap (λ (ls : List Line). line ∷ ls) same

      by : (ends : Bool) → statement_lines lines ≡ filter (λ l. not (is_skipped l)) (take_while (λ l. not (ends_text l)) lines)
          → cond ends [] (cond (is_skipped line) (statement_lines lines) (line ∷ statement_lines lines)) ≡ filter (λ l. not (is_skipped l)) (cond (not ends) (line ∷ take_while (λ l. not (ends_text l)) lines) [])
      by true rest = refl
      by false rest = kept (is_skipped line) (statement_lines lines) (filter (λ l. not (is_skipped l)) (take_while (λ l. not (ends_text l)) lines)) rest

pub statements_are : (bytes : List ℕ) → numbered (lines_read bytes) ≡ statements_of bytes
statements_are bytes = ap numbered (lines_are (joined (lines_of bytes)))
