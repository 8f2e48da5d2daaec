-- Lines without backslashes are read as they stand.
use Rattle.std.proofs.Common.{suc, ◌≡◌, ◌≢◌, ℕ, ◌+◌, ◌-◌, ◌<◌, ◌||◌, Bool, true, false, cond, not, eqb, List, [], ◌∷◌, ◌++◌, length, map, get_or, ◌∙◌, refl, ap, arith}
use Rattle.std.specs.List.{list_any, AllByRecursion, filter, prefix_len, take_while}
use Rattle.std.specs.Str.{bytes_eq}
use Rattle.std.proofs.lemmas.Bool.Decides.{nat_tests}
use Rattle.std.proofs.lemmas.List.Elements.{All-from_recursion}
use Rattle.hs_io.specs.declared.lines.Line.{Line}
use Rattle.hs_io.specs.Lines.{is_skipped, lines_from}
use Rattle.hs_io.specs.Spelling.{line_text, ArePlainFields, IsComment}
use Rattle.hs_io.specs.Laws.Spelled.{line_of-fields, line_of-comment}
use Rattle.net_core.specs.JoinedLines.{is_backslash, ends_in_backslash, is_continued, part_of, in_front, joined, ends_text, word_of}
use Rattle.net_core.specs.Statements.{numbered_of, statement_of}
use Rattle.net_core.specs.Words.{end_word}
use Rattle.blif_out.specs.Laws.Grammar.{on_lines}

-- clean lines with these fields, numbered
abbrev pub numbered : ℕ → List (List (List ℕ)) → List Line
numbered n [] = []
numbered n (fields ∷ more) = record { number = n; fields = fields; bad = false } ∷ numbered (n + 1) more

-- fields without a backslash
abbrev pub HasNoBackslash : List (List ℕ) → Type 0
HasNoBackslash fields = AllByRecursion (AllByRecursion (λ b. b ≢ 92)) fields

-- comments and then lines of plain fields are these lines
pub lines_from-body : (n : ℕ) (body : List (List (List ℕ))) → AllByRecursion ArePlainFields body → lines_from n (map line_text body) ≡ numbered n body
lines_from-body n [] p = refl
lines_from-body n (fields ∷ body) (p, ps) = rw (line_of-fields n fields p) (ap (λ ls. record { number = n; fields = fields; bad = false } ∷ ls) (lines_from-body (n + 1) body ps))

pub lines_from-comments : (n : ℕ) (comments : List (List ℕ)) (body : List (List (List ℕ))) → AllByRecursion IsComment comments → AllByRecursion ArePlainFields body → lines_from n (comments ++ map line_text body) ≡ numbered n (map (λ _. []) comments ++ body)
lines_from-comments n [] body c p = lines_from-body n body p
lines_from-comments n (text ∷ comments) body (c, cs) p = rw (line_of-comment n text c) (ap (λ ls. record { number = n; fields = []; bad = false } ∷ ls) (lines_from-comments (n + 1) comments body cs p))

not_backslash : (b : ℕ) → b ≢ 92 → is_backslash b ≡ false
not_backslash b h = grind (arith, nat_tests)

-- no field ends in a backslash
ends_plain : (field : List ℕ) → AllByRecursion (λ b. b ≢ 92) field → ends_in_backslash field ≡ false
ends_plain [] p = refl
ends_plain (x ∷ xs) p =
    let field : List ℕ = x ∷ xs in
    not_backslash (get_or field (length field - 1) 0) (All-from_recursion (λ b. b ≢ 92) field p (length field - 1) 0 (omega arith))

pub not_continued : (fields : List (List ℕ)) → HasNoBackslash fields → is_continued fields ≡ false
not_continued [] p = refl
not_continued (field ∷ []) (p, ps) = ends_plain field p
not_continued (field ∷ next ∷ more) (p, ps) = not_continued (next ∷ more) ps

no_backslash : (field : List ℕ) → AllByRecursion (λ b. b ≢ 92) field → list_any is_backslash field ≡ false
no_backslash [] p = refl
no_backslash (x ∷ xs) (p, ps) = ap (λ b. b || list_any is_backslash xs) (not_backslash x p) ∙ no_backslash xs ps

no_backslashes : (fields : List (List ℕ)) → HasNoBackslash fields → list_any (list_any is_backslash) fields ≡ false
no_backslashes [] p = refl
no_backslashes (x ∷ xs) (p, ps) = ap (λ b. b || list_any (list_any is_backslash) xs) (no_backslash x p) ∙ no_backslashes xs ps

-- such a line is a part of its own
pub part_of-plain : (n : ℕ) (fields : List (List ℕ)) → HasNoBackslash fields → part_of (record { number = n; fields = fields; bad = false }) ≡ record { number = n; fields = fields; bad = false }
part_of-plain n fields p = rw (not_continued fields p, no_backslashes fields p) refl

-- no two such lines are joined
pub joined-numbered : (n : ℕ) (lines : List (List (List ℕ))) → AllByRecursion HasNoBackslash lines → joined (numbered n lines) ≡ numbered n lines
joined-numbered n [] p = refl
joined-numbered n (fields ∷ lines) (p, ps) =
    let line : Line = record { number = n; fields = fields; bad = false } in
    let rest : List Line = joined (numbered (n + 1) lines) in
    ap (λ b. cond b (in_front (part_of line) rest) (part_of line ∷ rest)) (not_continued fields p)
    ∙ (ap (λ part. part ∷ rest) (part_of-plain n fields p) ∙ ap (λ ls. line ∷ ls) (joined-numbered (n + 1) lines ps))

-- an element that passes is taken
pub take_while-cons : {X : Type 0} (p : X → Bool) (x : X) (xs : List X) → p x ≡ true → take_while p (x ∷ xs) ≡ x ∷ take_while p xs
take_while-cons p x xs passes =
    let one : 1 + prefix_len p xs ≡ suc (prefix_len p xs) = omega arith in
    rw (passes, one) refl

-- an element that does not pass ends what is taken
pub take_while-stop : {X : Type 0} (p : X → Bool) (x : X) (xs : List X) → p x ≡ false → take_while p (x ∷ xs) ≡ []
take_while-stop p x xs stops = rw stops refl

-- the word of a line is not the one that ends the text
abbrev pub GoesOn : List (List ℕ) → Type 0
GoesOn fields = bytes_eq (word_of fields) end_word ≡ false

-- the lines before the one that ends the text
pub take_while-numbered : (n : ℕ) (lines : List (List (List ℕ))) → AllByRecursion GoesOn lines → take_while (λ line. not (ends_text line)) (numbered n (lines ++ (end_word ∷ []) ∷ [])) ≡ numbered n lines
take_while-numbered n [] p = refl
take_while-numbered n (fields ∷ lines) (p, ps) =
    let line : Line = record { number = n; fields = fields; bad = false } in
    take_while-cons (λ l. not (ends_text l)) line (numbered (n + 1) (lines ++ (end_word ∷ []) ∷ [])) (ap not p)
    ∙ ap (λ ls. line ∷ ls) (take_while-numbered (n + 1) lines ps)

-- lines that have a first field
abbrev pub HasWord : List (List ℕ) → Type 0
HasWord fields = 0 < length fields

-- the statements among them: those with fields
statements-body : (n : ℕ) (body : List (List (List ℕ))) → AllByRecursion HasWord body → map numbered_of (filter (λ line. not (is_skipped line)) (numbered n body)) ≡ on_lines n (map statement_of body)
statements-body n [] p = refl
statements-body n (fields ∷ body) (p, ps) =
    let some : eqb (length fields) 0 ≡ false = grind (arith, nat_tests) in
    rw some (ap (λ ss. record { number = n; bad = false; says = statement_of fields } ∷ ss) (statements-body (n + 1) body ps))

-- behind comments they have the numbers of their lines
pub statements-comments : (n : ℕ) (comments : List (List ℕ)) (body : List (List (List ℕ))) → AllByRecursion HasWord body → (first : ℕ) × (map numbered_of (filter (λ line. not (is_skipped line)) (numbered n (map (λ _. []) comments ++ body))) ≡ on_lines first (map statement_of body))
statements-comments n [] body p = (n, statements-body n body p)
statements-comments n (text ∷ comments) body p = statements-comments (n + 1) comments body p
