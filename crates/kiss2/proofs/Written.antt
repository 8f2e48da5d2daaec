-- A text that is written, one piece after another.
use Rattle.std.proofs.Common.{◌≡◌, ℕ, zero, suc, ◌+◌, ◌-◌, ◌<◌, ◌≤◌, ◌^◌, Bool, true, false, cond, eqb, ◌||◌, List, [], ◌∷◌, ◌++◌, length, map, take, get_or, Some, None, ap, sym, ◌∙◌, refl, arith, append_assoc, append-nil}
use Rattle.std.specs.Prelude.{Result, Ok, Err, count_by}
use Rattle.std.specs.Result.{OnOk, is_ok}
use Rattle.std.specs.List.{cons_option, filter_map, list_any, range_with_len}
use Rattle.std.proofs.lemmas.Grind.{flat_map-append}
use Rattle.std.proofs.lemmas.List.{map-append, same_lists, take_more}
use Rattle.std.proofs.lemmas.List.Elements.{filter_map-append}
use Rattle.std.proofs.lemmas.List.Folds.{fold-map, list_any-append}
use Rattle.std.proofs.lemmas.List.FromFn.{get_or-range_with_len, length-range_with_len, length-map-range_with_len}
use Rattle.std.proofs.lemmas.List.{get_or-map, get_or_default}
use Rattle.std.proofs.lemmas.Nat.Bits.{bit_at_above}
use Rattle.cubes.specs.Field.{byte_of, character, characters}
use Rattle.cubes.specs.Symbol.{bit}
use Rattle.hs_io.specs.Spelling.{ended, line_text, spaced, spelled}
use Rattle.kiss_file.specs.declared.file.KissRow.{KissRow}
use Rattle.kiss2.specs.KissText.{fields_of_row, output_characters}

-- the line of a row
abbrev pub row_text : List (List ℕ) → ℕ → KissRow → List ℕ
row_text names outputs row = ended (line_text (fields_of_row names outputs row))

-- what a step that succeeds adds
pub when_ok : {T E A : Type 0} (r : Result T E) (x y z : A) → x ≡ cond (is_ok r) y z → OnOk r (x ≡ y)
when_ok (Ok v) x y z h = h
when_ok (Err e) x y z h = tt

-- the lines of one part after those of another
pub spelled_parts : (head counts table : List (List (List ℕ))) → spelled (head ++ (counts ++ table)) ≡ spelled head ++ (spelled counts ++ spelled table)
spelled_parts head counts table =
    let line = λ (fields : List (List ℕ)). ended (line_text fields) in
    flat_map-append line head (counts ++ table) ∙ ap (λ t. spelled head ++ t) (flat_map-append line counts table)

-- the fields of a row, appended one after another
pub row_appended :
    (start first second third fourth fifth last cube from to outputs : List ℕ)
    → first ≡ start ++ cube → second ≡ first ++ spaced from → third ≡ second ++ spaced to → fourth ≡ third ++ 32 ∷ [] → fifth ≡ fourth ++ outputs → last ≡ fifth ++ 10 ∷ []
    → last ≡ start ++ ended (line_text (cube ∷ from ∷ to ∷ outputs ∷ []))
row_appended start first second third fourth fifth last cube from to outputs a b c d e f =
    f
    ∙ ap (λ t. t ++ 10 ∷ []) (e ∙ ap (λ t. t ++ outputs) (d ∙ ap (λ t. t ++ 32 ∷ []) (c ∙ ap (λ t. t ++ spaced to) (b ∙ ap (λ t. t ++ spaced from) a))))
    ∙ simp (append_assoc, append-nil)

-- one character more of a cube
pub cube_more : (text new : List ℕ) (place care value b : ℕ) → 0 < place → new ≡ text ++ b ∷ [] → b ≡ byte_of (character care value (place - 1))
    → new ++ map byte_of (characters (place - 1) care value) ≡ text ++ map byte_of (characters place care value)
unfolding characters
cube_more text new zero care value b some is byte = absurd (omega arith)
cube_more text new (suc p) care value b some is byte =
    let same : suc p - 1 ≡ p = omega arith in
    ap (λ xs. xs ++ map byte_of (characters (suc p - 1) care value)) is
    ∙ (append_assoc text (b ∷ []) (map byte_of (characters (suc p - 1) care value))
    ∙ (ap (λ c. text ++ c ∷ map byte_of (characters (suc p - 1) care value)) byte
    ∙ ap (λ n. text ++ byte_of (character care value n) ∷ map byte_of (characters n care value)) same))

pub cube_done : (text old : List ℕ) (place care value : ℕ) → place ≤ 0 → text ++ map byte_of (characters place care value) ≡ old → text ≡ old
unfolding characters
cube_done text old zero care value le is = sym (append-nil text) ∙ is
cube_done text old (suc p) care value le is = absurd (omega arith)

-- one output more
pub range_push : (a n : ℕ) → range_with_len a (suc n) ≡ range_with_len a n ++ (a + n) ∷ []
range_push a zero = let same : a + 0 ≡ a = omega arith in ap (λ m. m ∷ []) (sym same)
range_push a (suc n) = let same : (a + 1) + n ≡ a + suc n = omega arith in ap (λ xs. a ∷ xs) (range_push (a + 1) n ∙ ap (λ m. range_with_len (a + 1) n ++ m ∷ []) same)

pub outputs_more : (f : ℕ → ℕ) (n : ℕ) → map f (range_with_len 0 (n + 1)) ≡ map f (range_with_len 0 n) ++ f n ∷ []
outputs_more f n =
    let next : n + 1 ≡ suc n = omega arith in
    let same : 0 + n ≡ n = omega arith in
    ap (λ m. map f (range_with_len 0 m)) next
    ∙ (ap (map f) (range_push 0 n) ∙ (map-append f (range_with_len 0 n) ((0 + n) ∷ []) ∙ ap (λ m. map f (range_with_len 0 n) ++ f m ∷ []) same))

pub output_more : (start text new : List ℕ) (o b : ℕ) (row : KissRow) → new ≡ text ++ b ∷ [] → b ≡ byte_of (character row.care row.value o) → text ≡ start ++ output_characters o row
    → new ≡ start ++ output_characters (o + 1) row
output_more start text new o b row is byte before =
    let front = output_characters o row in
    let last = byte_of (character row.care row.value o) ∷ [] in
    is
    ∙ (ap (λ c. text ++ c ∷ []) byte
    ∙ (ap (λ t. t ++ last) before
    ∙ (append_assoc start front last ∙ ap (λ t. start ++ t) (sym (outputs_more (λ place. byte_of (character row.care row.value place)) o)))))

-- past the last bit a character is a dash
pub no_character : (care value place : ℕ) → care < 2 ^ 64 → 64 ≤ place → 45 ≡ byte_of (character care value place)
no_character care value place fits past = sym (ap (λ b. byte_of (cond (eqb b 1) (Some (bit value place)) None)) (bit_at_above care 64 place fits past))

or_moved : (o froms tos from to : Bool) → (((o || (froms || tos)) || from) || to) ≡ (o || ((froms || (from || false)) || (tos || to)))
or_moved true froms tos from to = refl
or_moved false true tos from to = refl
or_moved false false true true to = refl
or_moved false false true false to = refl
or_moved false false false true to = refl
or_moved false false false false to = refl

-- one row more whose states are marked
pub marked_more : (rows : List KissRow) (i s : ℕ) (row : KissRow) (old loop first new : Bool) → i < length rows → row ≡ get_or rows i row
    → loop ≡ (old || list_any (λ t. eqb t s) (map (λ r. r.from) (take i rows) ++ filter_map (λ r. r.to) (take i rows)))
    → first ≡ (loop || eqb row.from s) → new ≡ (first || list_any (λ t. eqb t s) (cons_option row.to []))
    → new ≡ (old || list_any (λ t. eqb t s) (map (λ r. r.from) (take (i + 1) rows) ++ filter_map (λ r. r.to) (take (i + 1) rows)))
marked_more rows i s row old loop first new inside here so_far from to =
    let any = list_any (λ t. eqb t s) in
    let front = take i rows in
    let froms = map (λ (r : KissRow). r.from) front in
    let tos = filter_map (λ (r : KissRow). r.to) front in
    let more : take (i + 1) rows ≡ front ++ row ∷ [] = take_more rows i row inside ∙ ap (λ r. front ++ r ∷ []) (sym here) in
    let all_from : any (map (λ r. r.from) (take (i + 1) rows)) ≡ (any froms || (eqb row.from s || false)) =
    ap (λ rs. any (map (λ r. r.from) rs)) more ∙ (ap any (map-append (λ r. r.from) front (row ∷ [])) ∙ list_any-append (λ t. eqb t s) froms (row.from ∷ [])) in
    let all_to : any (filter_map (λ r. r.to) (take (i + 1) rows)) ≡ (any tos || any (cons_option row.to [])) =
    ap (λ rs. any (filter_map (λ r. r.to) rs)) more ∙ (ap any (filter_map-append (λ r. r.to) front (row ∷ [])) ∙ list_any-append (λ t. eqb t s) tos (cons_option row.to [])) in
    to
    ∙ (ap (λ b. b || any (cons_option row.to [])) (from ∙ ap (λ b. b || eqb row.from s) (so_far ∙ ap (λ b. old || b) (list_any-append (λ t. eqb t s) froms tos)))
    ∙ (or_moved old (any froms) (any tos) (eqb row.from s) (any (cons_option row.to []))
    ∙ ap (λ b. old || b)
    (ap (λ b. b || (any tos || any (cons_option row.to []))) (sym all_from)
    ∙ (ap (λ b. any (map (λ r. r.from) (take (i + 1) rows)) || b) (sym all_to)
    ∙ sym (list_any-append (λ t. eqb t s) (map (λ r. r.from) (take (i + 1) rows)) (filter_map (λ r. r.to) (take (i + 1) rows)))))))

-- the marks are counted
pub marks_count : (marks : List Bool) (n : ℕ) (f : ℕ → Bool) → length marks ≡ n → ((s : ℕ) → s < n → get_or marks s false ≡ f s) → count_by (λ b. b) marks ≡ count_by f (range_with_len 0 n)
marks_count marks n f long each =
    let same : marks ≡ map f (range_with_len 0 n) =
    same_lists marks (map f (range_with_len 0 n)) (long ∙ sym (length-map-range_with_len f 0 n))
    (λ k d lt.
    let inside : k < n = omega arith in
    let within : k < length (range_with_len 0 n) = omega (arith, length-range_with_len 0 n) in
    let at : get_or (range_with_len 0 n) k 0 ≡ k = get_or-range_with_len 0 n k 0 inside ∙ omega arith in
    get_or_default marks k d false lt ∙ (each k inside ∙ sym (get_or-map f (range_with_len 0 n) k 0 d within ∙ ap f at))) in
    ap (count_by (λ b. b)) same ∙ fold-map (λ a b. a + cond b 1 0) f 0 (range_with_len 0 n)
