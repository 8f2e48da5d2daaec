-- The bytes of the fields of a text.
use Rattle.std.proofs.Common.{◌≡◌, ℕ, suc, ◌+◌, ◌-◌, ◌<◌, ◌≤◌, Bool, true, false, cond, eqb, List, [], ◌∷◌, length, get_or, take, All, sym, subst, inl, inr, arith}
use Rattle.std.specs.Prelude.{filter}
use Rattle.std.specs.List.{AllByRecursion, before_first, list_all, onto_first, position_or_len, slice_split}
use Rattle.std.specs.Str.Lines.{strip_carriage_return}
use Rattle.std.proofs.lemmas.Bool.{cases_Bool, not-false}
use Rattle.std.proofs.lemmas.Bool.Decides.{nat_tests}
use Rattle.std.proofs.lemmas.List.{get_or-take, length-take}
use Rattle.std.proofs.lemmas.List.Elements.{All-from_recursion, recursion_from_All}
use Rattle.std.proofs.lemmas.List.Sums.{AllPass-from_list_all, fails_before_first}
use Rattle.list_facts.specs.Laws.Everywhere.{each_weaker}
use Rattle.hs_io.specs.declared.lines.Line.{Line}
use Rattle.hs_io.specs.Lines.{begins_comment, content, ends_line, fields_of, is_allowed, is_blank, is_field, line_of, lines_from, lines_of, lines_of_pieces, physical_lines}
use Rattle.hs_io.specs.Spelling.{IsFieldByte}

-- a part of a text that is cut: it is no longer, no byte of it cuts, and its bytes are the text's
record IsPart (p : ℕ → Bool) (Q : ℕ → Type 0) (most : ℕ) (part : List ℕ) : Type 0 where
  short : length part ≤ most
  uncut : AllByRecursion (λ b. p b ≡ false) part
  held : AllByRecursion Q part

longer : {p : ℕ → Bool} {Q : ℕ → Type 0} (most more : ℕ) (part : List ℕ) → most ≤ more → IsPart p Q most part → IsPart p Q more part
longer most more part le h = let short = h.short in record { short = omega arith; uncut = h.uncut; held = h.held }

all_longer : (p : ℕ → Bool) (Q : ℕ → Type 0) (most more : ℕ) (parts : List (List ℕ)) → most ≤ more → AllByRecursion (IsPart p Q most) parts → AllByRecursion (IsPart p Q more) parts
all_longer p Q most more [] le h = tt
all_longer p Q most more (part ∷ parts) le (h, hs) = (longer most more part le h, all_longer p Q most more parts le hs)

onto : (p : ℕ → Bool) (Q : ℕ → Type 0) (most b : ℕ) (parts : List (List ℕ)) → p b ≡ false → Q b → AllByRecursion (IsPart p Q most) parts → AllByRecursion (IsPart p Q (suc most)) (onto_first b parts)
onto p Q most b [] apart q h = (record { short = omega arith; uncut = (apart, tt); held = (q, tt) }, tt)
onto p Q most b (part ∷ parts) apart q (h, hs) =
    let short = h.short in
    (record { short = omega arith; uncut = (apart, h.uncut); held = (q, h.held) }, all_longer p Q most (suc most) parts (omega arith) hs)

parts_of : (p : ℕ → Bool) (Q : ℕ → Type 0) (bytes : List ℕ) → AllByRecursion Q bytes → AllByRecursion (IsPart p Q (length bytes)) (slice_split p bytes)
parts_of p Q [] q = (record { short = omega arith; uncut = tt; held = tt }, tt)
parts_of p Q (b ∷ bytes) (q, qs) =
    let rest = parts_of p Q bytes qs in
    elim (cases_Bool (p b)) [
      | inl cuts ↦ subst (λ t. AllByRecursion (IsPart p Q (suc (length bytes))) (cond t ([] ∷ slice_split p bytes) (onto_first b (slice_split p bytes)))) (sym cuts)
          (record { short = omega arith; uncut = tt; held = tt }, all_longer p Q (length bytes) (suc (length bytes)) (slice_split p bytes) (omega arith) rest)
      | inr apart ↦ subst (λ t. AllByRecursion (IsPart p Q (suc (length bytes))) (cond t ([] ∷ slice_split p bytes) (onto_first b (slice_split p bytes)))) (sym apart)
          (onto p Q (length bytes) b (slice_split p bytes) apart q rest)
    ]

pieces_kept : (P : List ℕ → Type 0) (pieces : List (List ℕ)) → AllByRecursion P pieces → AllByRecursion P (lines_of_pieces pieces)
pieces_kept P [] h = tt
pieces_kept P (piece ∷ []) (h, hs) = last (eqb (length piece) 0) where
  last : (empty : Bool) → AllByRecursion P (cond empty [] (piece ∷ []))
  last true = tt
  last false = (h, tt)
pieces_kept P (piece ∷ next ∷ more) (h, hs) = (h, pieces_kept P (next ∷ more) hs)

filter_kept : (P : List ℕ → Type 0) (p : List ℕ → Bool) (runs : List (List ℕ)) → AllByRecursion P runs → AllByRecursion (λ run. P run × (p run ≡ true)) (filter p runs)
filter_kept P p [] h = tt
filter_kept P p (run ∷ runs) (h, hs) =
    elim (cases_Bool (p run)) [
      | inl kept ↦ subst (λ t. AllByRecursion (λ r. P r × (p r ≡ true)) (cond t (run ∷ filter p runs) (filter p runs))) (sym kept) ((h, kept), filter_kept P p runs hs)
      | inr dropped ↦ subst (λ t. AllByRecursion (λ r. P r × (p r ≡ true)) (cond t (run ∷ filter p runs) (filter p runs))) (sym dropped) (filter_kept P p runs hs)
    ]

-- the content of a line has none of a comment's marks, and is no longer
content_short : (line : List ℕ) → length (content line) ≤ length line
content_short line =
    let text = strip_carriage_return line in
    let stripped : length text ≤ length line = strip (eqb (get_or line (length line - 1) 0) 13) in
    omega (arith, length-take (position_or_len begins_comment text) text) where
      strip : (returns : Bool) → length (cond returns (take (length line - 1) line) line) ≤ length line
      strip true = omega (arith, length-take (length line - 1) line)
      strip false = omega arith

content_uncommented : (line : List ℕ) → All (λ b. begins_comment b ≡ false) (content line)
content_uncommented line = before (strip_carriage_return line) where
  before : (text : List ℕ) → All (λ b. begins_comment b ≡ false) (before_first begins_comment text)
  before text k d lt =
      let n = position_or_len begins_comment text in
      let inside : k < n = omega (arith, lt, length-take n text) in
      subst (λ b. begins_comment b ≡ false) (sym (get_or-take n text k d inside)) (fails_before_first begins_comment text k d inside)

-- the fields of a line
pub record HasGoodFields (most : ℕ) (line : Line) : Type 0 where
  pub short : All (λ field. length field ≤ most) line.fields
  pub visible : line.bad ≡ false → All (λ field. (0 < length field) × All IsFieldByte field) line.fields

name_byte : (b : ℕ) → is_blank b ≡ false → begins_comment b ≡ false → is_allowed b ≡ true → IsFieldByte b
name_byte b apart plain allowed = record { low = grind (arith, nat_tests); high = grind (arith, nat_tests); no_comment = grind (arith, nat_tests) }

bytes_named : (field : List ℕ) → AllByRecursion (λ b. is_blank b ≡ false) field → AllByRecursion (λ b. (begins_comment b ≡ false) × (is_allowed b ≡ true)) field → All IsFieldByte field
bytes_named field uncut held = All-from_recursion IsFieldByte field (both field uncut held) where
  both : (bs : List ℕ) → AllByRecursion (λ b. is_blank b ≡ false) bs → AllByRecursion (λ b. (begins_comment b ≡ false) × (is_allowed b ≡ true)) bs → AllByRecursion IsFieldByte bs
  both [] u h = tt
  both (b ∷ bs) (u, us) (h, hs) = (name_byte b u h.0 h.1, both bs us hs)

some_byte : (field : List ℕ) → is_field field ≡ true → 0 < length field
some_byte field is = grind (arith, nat_tests)

line_good : (number most : ℕ) (line : List ℕ) → length line ≤ most → HasGoodFields most (line_of number line)
line_good number most line le =
    let text = content line in
    let shorter = content_short line in
    record {
      short =
          let parts = parts_of is_blank (λ _. Unit {0}) text (anything text) in
          All-from_recursion (λ field. length field ≤ most) (fields_of text)
          (each_weaker (λ run. IsPart is_blank (λ _. Unit {0}) (length text) run × (is_field run ≡ true)) (λ field. length field ≤ most) (λ run h. let s = h.0.short in omega arith) (fields_of text)
          (filter_kept (IsPart is_blank (λ _. Unit {0}) (length text)) is_field (slice_split is_blank text) parts));
      visible = λ clean.
          let allowed = AllPass-from_list_all is_allowed text (not-false (list_all is_allowed text) clean) in
          let held : All (λ b. (begins_comment b ≡ false) × (is_allowed b ≡ true)) text = λ k d lt. (content_uncommented line k d lt, allowed k d lt) in
          let parts = parts_of is_blank (λ b. (begins_comment b ≡ false) × (is_allowed b ≡ true)) text (recursion_from_All (λ b. (begins_comment b ≡ false) × (is_allowed b ≡ true)) text held) in
          All-from_recursion (λ field. (0 < length field) × All IsFieldByte field) (fields_of text)
          (each_weaker (λ run. IsPart is_blank (λ b. (begins_comment b ≡ false) × (is_allowed b ≡ true)) (length text) run × (is_field run ≡ true)) (λ field. (0 < length field) × All IsFieldByte field)
          (λ run h. (some_byte run h.1, bytes_named run h.0.uncut h.0.held)) (fields_of text)
          (filter_kept (IsPart is_blank (λ b. (begins_comment b ≡ false) × (is_allowed b ≡ true)) (length text)) is_field (slice_split is_blank text) parts));
    } where
      anything : (bs : List ℕ) → AllByRecursion (λ _. Unit {0}) bs
      anything [] = tt
      anything (b ∷ bs) = (tt, anything bs)

lines_good : (number most : ℕ) (lines : List (List ℕ)) → AllByRecursion (λ line. length line ≤ most) lines → AllByRecursion (HasGoodFields most) (lines_from number lines)
lines_good number most [] h = tt
lines_good number most (line ∷ lines) (h, hs) = (line_good number most line h, lines_good (number + 1) most lines hs)

-- each line of a text
pub fields_good : (bytes : List ℕ) → All (HasGoodFields (length bytes)) (lines_of bytes)
fields_good bytes =
    let parts = parts_of ends_line (λ _. Unit {0}) bytes (anything bytes) in
    let short = each_weaker (IsPart ends_line (λ _. Unit {0}) (length bytes)) (λ line. length line ≤ length bytes) (λ line h. h.short) (slice_split ends_line bytes) parts in
    All-from_recursion (HasGoodFields (length bytes)) (lines_of bytes)
    (lines_good 1 (length bytes) (physical_lines bytes) (pieces_kept (λ line. length line ≤ length bytes) (slice_split ends_line bytes) short)) where
      anything : (bs : List ℕ) → AllByRecursion (λ _. Unit {0}) bs
      anything [] = tt
      anything (b ∷ bs) = (tt, anything bs)
