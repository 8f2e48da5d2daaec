-- What is spelled by fields is read as these fields.
use Rattle.std.proofs.Common.{zero, suc, ◌&&◌, ◌≡◌, ◌≢◌, ℕ, ◌-◌, ◌<◌, ◌≤◌, Bool, true, false, cond, not, eqb, List, [], ◌∷◌, ◌++◌, length, take, get_or, All, append_assoc, append-nil, ◌∙◌, refl, ap, arith}
use Rattle.std.specs.List.{before_first, slice_split, flat_map, list_all, AllByRecursion, position_or_len}
use Rattle.std.specs.Str.Lines.{strip_carriage_return}
use Rattle.std.proofs.lemmas.Bool.Decides.{nat_tests}
use Rattle.std.proofs.lemmas.List.{take_all}
use Rattle.std.proofs.lemmas.List.Concat.{flat_map-cons}
use Rattle.std.proofs.lemmas.List.Elements.{All-from_recursion}
use Rattle.std.proofs.lemmas.List.Splits.{slice_split_none, slice_split_at, length-slice_split}
use Rattle.std.proofs.lemmas.List.Sums.{position_or_len_is}
use Rattle.list_facts.specs.Laws.Everywhere.{each_append, each_weaker}
use Rattle.hs_io.specs.Lines.{begins_comment, content, ends_line, fields_in, fields_of, is_allowed, is_blank, line_of, lines_of_pieces, physical_lines}
use Rattle.hs_io.specs.Spelling.{spaced, line_text, ended, IsFieldByte, IsPlainField, ArePlainFields, IsComment}

-- a byte of a line of fields: a space or a byte of a field
pub record IsLineByte (byte : ℕ) : Type 0 where
  pub low : 32 ≤ byte
  pub high : byte ≤ 126
  pub no_comment : byte ≢ 35

field_in_line : (field : List ℕ) → IsPlainField field → AllByRecursion IsLineByte field
field_in_line field p = each_weaker IsFieldByte IsLineByte (λ x h. record { low = omega (arith, h.low); high = h.high; no_comment = h.no_comment }) field p.visible

space_in_line : IsLineByte 32
space_in_line = record { low = omega arith; high = omega arith; no_comment = λ e. absurd (omega arith) }

-- the bytes of a line of fields
pub line_bytes : (fields : List (List ℕ)) → ArePlainFields fields → AllByRecursion IsLineByte (line_text fields)
line_bytes [] p = tt
line_bytes (field ∷ []) (p, ps) = rw (append-nil field) (field_in_line field p)
line_bytes (field ∷ next ∷ more) (p, ps) =
    rw (flat_map-cons spaced next more) (each_append IsLineByte field (spaced next ++ flat_map spaced more) (field_in_line field p) (space_in_line, line_bytes (next ∷ more) ps))

-- a piece with others behind it is a line
pub lines_of_pieces-cons : (piece : List ℕ) (pieces : List (List ℕ)) → 0 < length pieces → lines_of_pieces (piece ∷ pieces) ≡ piece ∷ lines_of_pieces pieces
lines_of_pieces-cons piece [] some = absurd (omega arith)
lines_of_pieces-cons piece (next ∷ more) some = refl

-- a text that ends a line is its own first line
pub physical_lines-ended : (text rest : List ℕ) → AllByRecursion (λ b. b ≢ 10) text → physical_lines (ended text ++ rest) ≡ text ∷ physical_lines rest
physical_lines-ended text rest no_end =
    let apart : All (λ b. ends_line b ≡ false) text =
    All-from_recursion (λ b. ends_line b ≡ false) text (each_weaker (λ b. b ≢ 10) (λ b. ends_line b ≡ false) (λ b h. grind (arith, nat_tests)) text no_end) in
    rw (append_assoc text (10 ∷ []) rest, slice_split_at ends_line text 10 rest apart refl) (lines_of_pieces-cons text (slice_split ends_line rest) (omega (arith, length-slice_split ends_line rest)))

-- the lines of texts that end lines are these
pub physical_lines-all : (texts : List (List ℕ)) → AllByRecursion (AllByRecursion (λ b. b ≢ 10)) texts → physical_lines (flat_map ended texts) ≡ texts
physical_lines-all [] p = refl
physical_lines-all (text ∷ texts) (p, ps) =
    rw (flat_map-cons ended text texts, physical_lines-ended text (flat_map ended texts) p) (ap (λ ls. text ∷ ls) (physical_lines-all texts ps))

no_blanks : (field : List ℕ) → IsPlainField field → All (λ b. is_blank b ≡ false) field
no_blanks field p =
    All-from_recursion (λ b. is_blank b ≡ false) field
    (each_weaker IsFieldByte (λ b. is_blank b ≡ false) (λ b h. let low = h.low in grind (arith, nat_tests)) field p.visible)

-- a run that is not empty is the first of the fields
one_field : (field : List ℕ) (runs : List (List ℕ)) → 0 < length field → fields_in (field ∷ runs) ≡ field ∷ fields_in runs
one_field [] runs some = absurd (omega arith)
one_field (x ∷ xs) runs some = let t : eqb (length (x ∷ xs)) 0 ≡ false = grind (arith, nat_tests) in ap (λ b. cond (not b) ((x ∷ xs) ∷ fields_in runs) (fields_in runs)) t

-- no byte of a line of fields is a carriage return
no_return : (text : List ℕ) → AllByRecursion IsLineByte text → strip_carriage_return text ≡ text
no_return [] p = refl
no_return (x ∷ xs) p =
    let text : List ℕ = x ∷ xs in
    let low = (All-from_recursion IsLineByte text p (length text - 1) 0 (omega arith)).low in
    let other : eqb (get_or text (length text - 1) 0) 13 ≡ false = grind (arith, nat_tests) in
    ap (λ b. cond b (take (length text - 1) text) text) other

-- the fields of a line that they spell
pub fields_of-line : (fields : List (List ℕ)) → ArePlainFields fields → fields_of (line_text fields) ≡ fields
fields_of-line [] p = refl
fields_of-line (field ∷ []) (p, ps) =
    rw (append-nil field, slice_split_none is_blank field (no_blanks field p)) (one_field field [] p.some)
fields_of-line (field ∷ next ∷ more) (p, ps) =
    rw (flat_map-cons spaced next more, slice_split_at is_blank field 32 (next ++ flat_map spaced more) (no_blanks field p) refl)
    (one_field field (slice_split is_blank (line_text (next ∷ more))) p.some ∙ ap (λ fs. field ∷ fs) (fields_of-line (next ∷ more) ps))

-- a line of fields is read to its end
pub content-line : (text : List ℕ) → AllByRecursion IsLineByte text → content text ≡ text
content-line text p =
    let whole : strip_carriage_return text ≡ text = no_return text p in
    let bytes : All IsLineByte text = All-from_recursion IsLineByte text p in
    let uncut : position_or_len begins_comment text ≡ length text =
    position_or_len_is begins_comment text (length text) 0 (omega arith) (λ k lt. let h = (bytes k 0 lt).no_comment in grind (arith, nat_tests)) (λ lt. absurd (omega arith)) in
    rw (whole, uncut) (take_all (length text) text (omega arith))

-- and it is not bad
pub allowed-line : (text : List ℕ) → AllByRecursion IsLineByte text → list_all is_allowed text ≡ true
allowed-line [] p = refl
allowed-line (x ∷ xs) (p, ps) =
    let low = p.low in
    let high = p.high in
    let one : is_allowed x ≡ true = grind (arith, nat_tests) in
    ap (λ b. b && list_all is_allowed xs) one ∙ allowed-line xs ps

-- a line of plain fields is read as these fields
pub line_of-fields : (number : ℕ) (fields : List (List ℕ)) → ArePlainFields fields → line_of number (line_text fields) ≡ record { number = number; fields = fields; bad = false }
line_of-fields number fields p =
    let bytes = line_bytes fields p in
    rw (content-line (line_text fields) bytes, allowed-line (line_text fields) bytes, fields_of-line fields p) refl

first_kept : (n b : ℕ) (bs : List ℕ) → 1 ≤ n → take n (b ∷ bs) ≡ b ∷ take (n - 1) bs
first_kept zero b bs some = absurd (omega arith)
first_kept (suc n) b bs some = let same : n ≡ suc n - 1 = omega arith in ap (λ m. b ∷ take m bs) same

-- nothing is read of a comment, with its last byte or without
comment_cut : (b : ℕ) (bs : List ℕ) (shorter : Bool) → b ≡ 35 → 1 ≤ length (b ∷ bs) - 1 → before_first begins_comment (cond shorter (take (length (b ∷ bs) - 1) (b ∷ bs)) (b ∷ bs)) ≡ []
comment_cut b bs true mark some = rw (first_kept (length (b ∷ bs) - 1) b bs some, mark) refl
comment_cut b bs false mark some = rw mark refl

-- a comment is read as a line without fields
pub line_of-comment : (number : ℕ) (text : List ℕ) → IsComment text → line_of number text ≡ record { number = number; fields = []; bad = false }
line_of-comment number [] p = absurd p
line_of-comment number (b ∷ []) (mark, more) = rw mark refl
line_of-comment number (b ∷ c ∷ cs) (mark, more) =
    rw (comment_cut b (c ∷ cs) (eqb (get_or (b ∷ c ∷ cs) (length (b ∷ c ∷ cs) - 1) 0) 13) mark (omega arith)) refl
