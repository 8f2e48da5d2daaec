-- A text has one header.
use Rattle.std.proofs.Common.{◌≡◌, ◌≢◌, ℕ, ◌+◌, ◌^◌, ◌<◌, if◌then◌else◌, Bool, true, false, cond, List, [], ◌∷◌, ◌++◌, Option, None, Some, IfSome, length, map, filter, get_or, refl, sym, ap, ◌∙◌, subst, append-nil, arith, codes}
use Rattle.std.specs.Fmt.{decimal}
use Rattle.std.specs.Int.{bit_at}
use Rattle.std.specs.List.{enumerate_from, range_with_len, zip, AllByRecursion}
use Rattle.std.specs.Str.{bytes_eq}
use Rattle.std.proofs.lemmas.Fmt.{decimal_injective, decimal_nonempty, digits_decimal}
use Rattle.std.proofs.lemmas.List.{length-map}
use Rattle.std.proofs.lemmas.List.Elements.{All-from_recursion, filter-append}
use Rattle.std.proofs.lemmas.List.FromFn.{get_or-map-range_with_len}
use Rattle.std.proofs.lemmas.Nat.Bits.{same_from_bits_below}
use Rattle.std.proofs.lemmas.Str.Parse.{digit_at}
use Rattle.list_facts.specs.Laws.Everywhere.{images_once}
use Rattle.hs_io.specs.Spelling.{IsComment, ended, line_text}
use Rattle.partition.specs.Text.{labels_text, pieces_of}
use Rattle.partition.specs.Laws.Texts.{AreSmall, partition_once, text_once}
use Rattle.partition.specs.Laws.Numerals.{own}
use Rattle.partition.specs.Laws.Pieces.{pieces_of-labels_text}
use Rattle.state_codes.specs.declared.split.Kind.{Kind}
use Rattle.state_codes.specs.declared.split.Kind.TheVariants.{Code, Assign, Parallel, Serial, Cascade, Feedback, Least}
use Rattle.state_codes.specs.declared.split.Part.{Part}
use Rattle.blif_out.specs.declared.design.Design.{Design}
use Rattle.blif_out.specs.declared.header.Header.{Header}
use Rattle.blif_out.specs.declared.header.LatchNote.{LatchNote}
use Rattle.blif_out.specs.Head.{kind_word, classes_fields, numbers_text, part_fields, bits_of, bit_text, state_fields, note_fields, head_fields, head_lines, comment_text}
use Rattle.blif_out.specs.HeadLaw.{IsLawfulPartition, IsLawfulPart, IsLawfulNote, IsLawfulHeader, HeadOnce}
use Rattle.blif_out.specs.NetText.{model_fields}
use Rattle.blif_out.proofs.Cutting.{rest_of, pieces_once, fields_once}
use Rattle.blif_out.proofs.Denoting.{comment_inside}
use Rattle.blif_out.specs.Laws.Visible.{AreVisible, head_visible, head_comments}

-- a numeral is no dash
no_dash : (n : ℕ) → n < 2 ^ 64 → decimal n ≢ 45 ∷ []
no_dash n small e =
    let low = (digit_at (decimal n) 0 (digits_decimal own n small) (decimal_nonempty n small)).0 in
    let is : get_or (decimal n) 0 0 ≡ 45 = ap (λ (t : List ℕ). get_or t 0 0) e in
    absurd (omega (arith, low, is))

no_numbers : (y : ℕ) (ys : List ℕ) → AreSmall (y ∷ ys) → codes "-" ≢ labels_text (y ∷ ys)
no_numbers y ys q e =
    let pieces : (45 ∷ []) ∷ [] ≡ map decimal (y ∷ ys) = ap pieces_of e ∙ pieces_of-labels_text (y ∷ ys) (omega arith) (λ place within. All-from_recursion (λ n. n < 2 ^ 64) (y ∷ ys) q place 0 within) in
    no_dash y q.0 (sym (ap (λ (t : List (List ℕ)). get_or t 0 []) pieces))

numbers_once : (xs ys : List ℕ) → AreSmall xs → AreSmall ys → numbers_text xs ≡ numbers_text ys → xs ≡ ys
numbers_once [] [] p q e = refl
numbers_once [] (y ∷ ys) p q e = absurd (no_numbers y ys q e)
numbers_once (x ∷ xs) [] p q e = absurd (no_numbers x xs p (sym e))
numbers_once (x ∷ xs) (y ∷ ys) p q e = text_once (x ∷ xs) (y ∷ ys) (omega arith) (omega arith) p q e

bit_text_once : (xs ys : List ℕ) → length xs ≡ length ys → bit_text xs ≡ bit_text ys → xs ≡ ys
bit_text_once [] [] n e = refl
bit_text_once [] (y ∷ ys) n e = absurd (omega (arith, n))
bit_text_once (x ∷ xs) [] n e = absurd (omega (arith, n))
bit_text_once (x ∷ xs) (y ∷ ys) n e = e

word_once : (bits v w : ℕ) → v < 2 ^ bits → w < 2 ^ bits → bit_text (bits_of bits v) ≡ bit_text (bits_of bits w) → v ≡ w
word_once bits v w small small' e =
    let digit : ℕ → ℕ → ℕ = λ n i. 48 + bit_at n i in
    let lengths : length (bits_of bits v) ≡ length (bits_of bits w) =
    length-map (range_with_len 0 bits) (digit v) ∙ sym (length-map (range_with_len 0 bits) (digit w)) in
    let same : bits_of bits v ≡ bits_of bits w = bit_text_once (bits_of bits v) (bits_of bits w) lengths e in
    same_from_bits_below bits v w small small' (λ i within.
    let left : get_or (bits_of bits v) i 0 ≡ 48 + bit_at v i = get_or-map-range_with_len (digit v) 0 bits i i 0 within (omega arith) in
    let right : get_or (bits_of bits w) i 0 ≡ 48 + bit_at w i = get_or-map-range_with_len (digit w) 0 bits i i 0 within (omega arith) in
    let equal : get_or (bits_of bits v) i 0 ≡ get_or (bits_of bits w) i 0 = ap (λ (t : List ℕ). get_or t i 0) same in
    omega (arith, left, right, equal))

-- the kind of a word
abbrev kind_of : List ℕ → Kind
kind_of word =
    if bytes_eq word (codes "code") then Code else (if bytes_eq word (codes "assign") then Assign else (if bytes_eq word (codes "parallel") then Parallel else (if bytes_eq word (codes "serial") then Serial else (if bytes_eq word (codes "cascade") then Cascade else (if bytes_eq word (codes "feedback") then Feedback else Least)))))

kind_of-word : (kind : Kind) → kind_of (kind_word kind) ≡ kind
kind_of-word Code = refl
kind_of-word Assign = refl
kind_of-word Parallel = refl
kind_of-word Serial = refl
kind_of-word Cascade = refl
kind_of-word Feedback = refl
kind_of-word Least = refl

part_once : (x y : Part) → IsLawfulPart x → IsLawfulPart y → labels_text x.partition ≡ labels_text y.partition → labels_text x.carrier ≡ labels_text y.carrier → numbers_text x.reads ≡ numbers_text y.reads → x ≡ y
part_once x y p q own_text carrier_text reads_text =
    let make : List ℕ → List ℕ → List ℕ → Part = λ own carrier reads. record { partition = own; carrier = carrier; reads = reads } in
    let a : x.partition ≡ y.partition = partition_once x.partition y.partition p.partition q.partition own_text in
    let b : x.carrier ≡ y.carrier = partition_once x.carrier y.carrier p.carrier q.carrier carrier_text in
    let c : x.reads ≡ y.reads = numbers_once x.reads y.reads (reads_small x.reads p.reads) (reads_small y.reads q.reads) reads_text in
    ap (λ (own : List ℕ). make own x.carrier x.reads) a ∙ ap (λ (carrier : List ℕ). make y.partition carrier x.reads) b ∙ ap (λ (reads : List ℕ). make y.partition y.carrier reads) c
  where
    reads_small : (ns : List ℕ) → AllByRecursion (λ n. n < 2 ^ 16) ns → AreSmall ns
    reads_small [] h = tt
    reads_small (n ∷ ns) (h, hs) = (omega (arith, h), reads_small ns hs)

note_once : (x y : LatchNote) → IsLawfulNote x → IsLawfulNote y → decimal x.part ≡ decimal y.part → labels_text x.from ≡ labels_text y.from → labels_text x.to ≡ labels_text y.to → x ≡ y
note_once x y p q part_text from_text to_text =
    let make : ℕ → List ℕ → List ℕ → LatchNote = λ part from to. record { part = part; from = from; to = to } in
    let small = p.part in
    let small' = q.part in
    let a : x.part ≡ y.part = decimal_injective x.part y.part (omega (arith, small)) (omega (arith, small')) part_text in
    let b : x.from ≡ y.from = partition_once x.from y.from p.from q.from from_text in
    let c : x.to ≡ y.to = partition_once x.to y.to p.to q.to to_text in
    ap (λ (part : ℕ). make part x.from x.to) a ∙ ap (λ (from : List ℕ). make y.part from x.to) b ∙ ap (λ (to : List ℕ). make y.part y.from to) c

-- the items of a list are those of the list with their numbers
items_of : {X : Type 0} (n : ℕ) (xs : List X) → map (λ (p : ℕ × X). p.1) (enumerate_from n xs) ≡ xs
items_of n [] = refl
items_of {X} n (x ∷ xs) = ap (λ (t : List X). x ∷ t) (items_of (n + 1) xs)

each_numbered : {X : Type 0} (P : X → Type 0) (n : ℕ) (xs : List X) → AllByRecursion P xs → AllByRecursion (λ (p : ℕ × X). P p.1) (enumerate_from n xs)
each_numbered P n [] h = tt
each_numbered P n (x ∷ xs) (h, hs) = (h, each_numbered P (n + 1) xs hs)

parts_once : (xs ys : List Part) → AllByRecursion IsLawfulPart xs → AllByRecursion IsLawfulPart ys → map part_fields (enumerate_from 0 xs) ≡ map part_fields (enumerate_from 0 ys) → xs ≡ ys
parts_once xs ys p q e =
    sym (items_of 0 xs)
    ∙ images_once part_fields (λ (x : ℕ × Part). x.1) (λ x. IsLawfulPart x.1)
    (λ x y a b f. part_once x.1 y.1 a b (ap (λ (t : List (List ℕ)). get_or t 2 []) f) (ap (λ (t : List (List ℕ)). get_or t 4 []) f) (ap (λ (t : List (List ℕ)). get_or t 6 []) f))
    (enumerate_from 0 xs) (enumerate_from 0 ys) (each_numbered IsLawfulPart 0 xs p) (each_numbered IsLawfulPart 0 ys q) e
    ∙ items_of 0 ys

notes_once : (xs ys : List LatchNote) → AllByRecursion IsLawfulNote xs → AllByRecursion IsLawfulNote ys → map note_fields (enumerate_from 0 xs) ≡ map note_fields (enumerate_from 0 ys) → xs ≡ ys
notes_once xs ys p q e =
    sym (items_of 0 xs)
    ∙ images_once note_fields (λ (x : ℕ × LatchNote). x.1) (λ x. IsLawfulNote x.1)
    (λ x y a b f. note_once x.1 y.1 a b (ap (λ (t : List (List ℕ)). get_or t 3 []) f) (ap (λ (t : List (List ℕ)). get_or t 5 []) f) (ap (λ (t : List (List ℕ)). get_or t 7 []) f))
    (enumerate_from 0 xs) (enumerate_from 0 ys) (each_numbered IsLawfulNote 0 xs p) (each_numbered IsLawfulNote 0 ys q) e
    ∙ items_of 0 ys

-- names and words, each from their pairs
names_of : (names : List (List ℕ)) (words : List ℕ) → length words ≡ length names → map (λ (p : List ℕ × ℕ). p.0) (zip names words) ≡ names
names_of [] words n = refl
names_of (name ∷ names) [] n = absurd (omega (arith, n))
names_of (name ∷ names) (word ∷ words) n = ap (λ (t : List (List ℕ)). name ∷ t) (names_of names words (omega (arith, n)))

words_of : (names : List (List ℕ)) (words : List ℕ) → length words ≡ length names → map (λ (p : List ℕ × ℕ). p.1) (zip names words) ≡ words
words_of [] [] n = refl
words_of [] (word ∷ words) n = absurd (omega (arith, n))
words_of (name ∷ names) [] n = absurd (omega (arith, n))
words_of (name ∷ names) (word ∷ words) n = ap (λ (t : List ℕ). word ∷ t) (words_of names words (omega (arith, n)))

each_paired : (P : ℕ → Type 0) (names : List (List ℕ)) (words : List ℕ) → AllByRecursion P words → AllByRecursion (λ (p : List ℕ × ℕ). P p.1) (zip names words)
each_paired P [] words h = tt
each_paired P (name ∷ names) [] h = tt
each_paired P (name ∷ names) (word ∷ words) (h, hs) = (h, each_paired P names words hs)

states_once : (bits : ℕ) (names names' : List (List ℕ)) (words words' : List ℕ) → length words ≡ length names → length words' ≡ length names' → AllByRecursion (λ w. w < 2 ^ bits) words → AllByRecursion (λ w. w < 2 ^ bits) words' → map (state_fields bits) (zip names words) ≡ map (state_fields bits) (zip names' words') → (names ≡ names') × (words ≡ words')
states_once bits names names' words words' n n' p q e =
    let P : ℕ → Type 0 = λ w. w < 2 ^ bits in
    let a = each_paired P names words p in
    let b = each_paired P names' words' q in (
      sym (names_of names words n)
          ∙ images_once (state_fields bits) (λ (x : List ℕ × ℕ). x.0) (λ x. P x.1) (λ x y _ _ f. ap (λ (t : List (List ℕ)). get_or t 1 []) f) (zip names words) (zip names' words') a b e
          ∙ names_of names' words' n',
      sym (words_of names words n)
          ∙ images_once (state_fields bits) (λ (x : List ℕ × ℕ). x.1) (λ x. P x.1) (λ x y k l f. word_once bits x.1 y.1 k l (ap (λ (t : List (List ℕ)). get_or t 2 []) f)) (zip names words) (zip names' words') a b e
          ∙ words_of names' words' n',
    )

classes_once : (c d : Option (List ℕ)) → IfSome c IsLawfulPartition → IfSome d IsLawfulPartition → classes_fields c ≡ classes_fields d → c ≡ d
classes_once None None p q e = refl
classes_once None (Some d) p q e = let none : 0 ≡ length (classes_fields (Some d)) = ap length e in absurd (omega (arith, none))
classes_once (Some c) None p q e = let none : length (classes_fields (Some c)) ≡ 0 = ap length e in absurd (omega (arith, none))
classes_once (Some c) (Some d) p q e =
    ap (λ (labels : List ℕ). Some labels) (partition_once c d p q (ap (λ (t : List (List (List ℕ))). get_or (get_or t 0 []) 1 []) e))

-- the lines whose first field is a word
abbrev begins : List ℕ → List (List ℕ) → Bool
begins word fields = bytes_eq (get_or fields 0 []) word

all_kept : {X : Type 0} (f : X → List (List ℕ)) (test : List (List ℕ) → Bool) → ((x : X) → test (f x) ≡ true) → (xs : List X) → filter test (map f xs) ≡ map f xs
all_kept f test h [] = refl
all_kept f test h (x ∷ xs) =
    ap (λ (b : Bool). cond b (f x ∷ filter test (map f xs)) (filter test (map f xs))) (h x) ∙ ap (λ (t : List (List (List ℕ))). f x ∷ t) (all_kept f test h xs)

none_kept : {X : Type 0} (f : X → List (List ℕ)) (test : List (List ℕ) → Bool) → ((x : X) → test (f x) ≡ false) → (xs : List X) → filter test (map f xs) ≡ []
none_kept f test h [] = refl
none_kept f test h (x ∷ xs) =
    ap (λ (b : Bool). cond b (f x ∷ filter test (map f xs)) (filter test (map f xs))) (h x) ∙ none_kept f test h xs

classes_kept : (c : Option (List ℕ)) → filter (begins (codes "classes")) (classes_fields c) ≡ classes_fields c
classes_kept None = refl
classes_kept (Some labels) = refl

no_classes_kept : (test : List (List ℕ) → Bool) → ((labels : List ℕ) → test (codes "classes" ∷ labels_text labels ∷ []) ≡ false) → (c : Option (List ℕ)) → filter test (classes_fields c) ≡ []
no_classes_kept test h None = refl
no_classes_kept test h (Some labels) =
    ap (λ (b : Bool). cond b ((codes "classes" ∷ labels_text labels ∷ []) ∷ []) []) (h labels)

-- the lines behind that of the kind
abbrev body_of : Header → List (List (List ℕ))
body_of H =
    classes_fields H.classes
    ++ map part_fields (enumerate_from 0 H.parts)
    ++ map (state_fields (length H.latches)) (zip H.states H.words)
    ++ map note_fields (enumerate_from 0 H.latches)

four_kept : (test : List (List ℕ) → Bool) (c p s l c' p' s' l' : List (List (List ℕ))) → filter test c ≡ c' → filter test p ≡ p' → filter test s ≡ s' → filter test l ≡ l' → filter test (c ++ p ++ s ++ l) ≡ c' ++ p' ++ s' ++ l'
four_kept test c p s l c' p' s' l' hc hp hs hl =
    filter-append test (c ++ p ++ s) l
    ∙ ap (λ (t : List (List (List ℕ))). t ++ filter test l) (filter-append test (c ++ p) s ∙ ap (λ (t : List (List (List ℕ))). t ++ filter test s) (filter-append test c p))
    ∙ rw (hc, hp, hs, hl) refl

classes_lines : (H : Header) → filter (begins (codes "classes")) (body_of H) ≡ classes_fields H.classes
classes_lines H =
    let test : List (List ℕ) → Bool = begins (codes "classes") in
    let c : List (List (List ℕ)) = classes_fields H.classes in
    four_kept test c (map part_fields (enumerate_from 0 H.parts)) (map (state_fields (length H.latches)) (zip H.states H.words)) (map note_fields (enumerate_from 0 H.latches)) c [] [] []
    (classes_kept H.classes) (none_kept part_fields test (λ x. refl) (enumerate_from 0 H.parts)) (none_kept (state_fields (length H.latches)) test (λ x. refl) (zip H.states H.words)) (none_kept note_fields test (λ x. refl) (enumerate_from 0 H.latches))
    ∙ append-nil (c ++ [] ++ []) ∙ append-nil (c ++ []) ∙ append-nil c

part_lines : (H : Header) → filter (begins (codes "part")) (body_of H) ≡ map part_fields (enumerate_from 0 H.parts)
part_lines H =
    let test : List (List ℕ) → Bool = begins (codes "part") in
    let p : List (List (List ℕ)) = map part_fields (enumerate_from 0 H.parts) in
    four_kept test (classes_fields H.classes) p (map (state_fields (length H.latches)) (zip H.states H.words)) (map note_fields (enumerate_from 0 H.latches)) [] p [] []
    (no_classes_kept test (λ labels. refl) H.classes) (all_kept part_fields test (λ x. refl) (enumerate_from 0 H.parts)) (none_kept (state_fields (length H.latches)) test (λ x. refl) (zip H.states H.words)) (none_kept note_fields test (λ x. refl) (enumerate_from 0 H.latches))
    ∙ append-nil (p ++ []) ∙ append-nil p

state_lines : (H : Header) → filter (begins (codes "code")) (body_of H) ≡ map (state_fields (length H.latches)) (zip H.states H.words)
state_lines H =
    let test : List (List ℕ) → Bool = begins (codes "code") in
    let s : List (List (List ℕ)) = map (state_fields (length H.latches)) (zip H.states H.words) in
    four_kept test (classes_fields H.classes) (map part_fields (enumerate_from 0 H.parts)) s (map note_fields (enumerate_from 0 H.latches)) [] [] s []
    (no_classes_kept test (λ labels. refl) H.classes) (none_kept part_fields test (λ x. refl) (enumerate_from 0 H.parts)) (all_kept (state_fields (length H.latches)) test (λ x. refl) (zip H.states H.words)) (none_kept note_fields test (λ x. refl) (enumerate_from 0 H.latches))
    ∙ append-nil s

note_lines : (H : Header) → filter (begins (codes "latch")) (body_of H) ≡ map note_fields (enumerate_from 0 H.latches)
note_lines H =
    let test : List (List ℕ) → Bool = begins (codes "latch") in
    let l : List (List (List ℕ)) = map note_fields (enumerate_from 0 H.latches) in
    four_kept test (classes_fields H.classes) (map part_fields (enumerate_from 0 H.parts)) (map (state_fields (length H.latches)) (zip H.states H.words)) l [] [] [] l
    (no_classes_kept test (λ labels. refl) H.classes) (none_kept part_fields test (λ x. refl) (enumerate_from 0 H.parts)) (none_kept (state_fields (length H.latches)) test (λ x. refl) (zip H.states H.words)) (all_kept note_fields test (λ x. refl) (enumerate_from 0 H.latches))

-- the fields of the lines tell the header
header_once : (H H' : Header) → IsLawfulHeader H → IsLawfulHeader H' → head_fields H ≡ head_fields H' → H ≡ H'
header_once H H' p q e =
    let body : body_of H ≡ body_of H' = ap (λ (t : List (List (List ℕ))). rest_of t) e in
    let word : kind_word H.kind ≡ kind_word H'.kind = ap (λ (t : List (List (List ℕ))). get_or (get_or t 0 []) 1 []) e in
    let kind : H.kind ≡ H'.kind = sym (kind_of-word H.kind) ∙ ap kind_of word ∙ kind_of-word H'.kind in
    let classes : H.classes ≡ H'.classes =
    classes_once H.classes H'.classes p.classes q.classes (sym (classes_lines H) ∙ ap (filter (begins (codes "classes"))) body ∙ classes_lines H') in
    let parts : H.parts ≡ H'.parts =
    parts_once H.parts H'.parts p.parts q.parts (sym (part_lines H) ∙ ap (filter (begins (codes "part"))) body ∙ part_lines H') in
    let latches : H.latches ≡ H'.latches =
    notes_once H.latches H'.latches p.latches q.latches (sym (note_lines H) ∙ ap (filter (begins (codes "latch"))) body ∙ note_lines H') in
    let bits : length H'.latches ≡ length H.latches = sym (ap length latches) in
    let states =
    states_once (length H.latches) H.states H'.states H.words H'.words p.counted q.counted p.words (subst (λ (n : ℕ). AllByRecursion (λ w. w < 2 ^ n) H'.words) bits q.words)
    (sym (state_lines H) ∙ ap (filter (begins (codes "code"))) body ∙ state_lines H' ∙ ap (λ (n : ℕ). map (state_fields n) (zip H'.states H'.words)) bits) in
    let make : Kind → Option (List ℕ) → List Part → List (List ℕ) → List ℕ → List LatchNote → Header =
    λ k c ps ns ws ls. record { kind = k; classes = c; parts = ps; states = ns; words = ws; latches = ls } in
    ap (λ (k : Kind). make k H.classes H.parts H.states H.words H.latches) kind
    ∙ ap (λ (c : Option (List ℕ)). make H'.kind c H.parts H.states H.words H.latches) classes
    ∙ ap (λ (ps : List Part). make H'.kind H'.classes ps H.states H.words H.latches) parts
    ∙ ap (λ (ns : List (List ℕ)). make H'.kind H'.classes H'.parts ns H.words H.latches) states.0
    ∙ ap (λ (ws : List ℕ). make H'.kind H'.classes H'.parts H'.states ws H.latches) states.1
    ∙ ap (λ (ls : List LatchNote). make H'.kind H'.classes H'.parts H'.states H'.words ls) latches

-- the lines tell the fields
lines_once : (xs ys : List (List (List ℕ))) → AllByRecursion AreVisible xs → AllByRecursion AreVisible ys → map comment_text xs ≡ map comment_text ys → xs ≡ ys
lines_once xs ys p q e =
    sym (same xs) ∙ images_once comment_text (λ (fields : List (List ℕ)). fields) AreVisible fields_once xs ys p q e ∙ same ys
  where
    same : (lines : List (List (List ℕ))) → map (λ (fields : List (List ℕ)). fields) lines ≡ lines
    same [] = refl
    same (fields ∷ lines) = ap (λ (t : List (List (List ℕ))). fields ∷ t) (same lines)

-- the line of the model
abbrev model_line : Design → List ℕ
model_line design = ended (line_text (model_fields design))

-- a network's first line is no comment
no_comment : (design : Design) (rest p after : List ℕ) → IsComment p → p ++ 10 ∷ after ≢ model_line design ++ rest
no_comment design rest [] after c e = c
no_comment design rest (b ∷ bs) after (mark, more) e =
    let first : b ≡ 46 = ap (λ (t : List ℕ). get_or t 0 0) e in
    absurd (omega (arith, mark, first))

pub head_once : HeadOnce
head_once design design' bytes H H' p q (rest, e) (rest', e') =
    let comments = head_comments H p.states in
    let comments' = head_comments H' q.states in
    let lines : head_lines H ≡ head_lines H' =
    pieces_once 10 IsComment comment_inside (model_line design ++ rest) (model_line design' ++ rest') (no_comment design rest) (no_comment design' rest') (head_lines H) (head_lines H') comments comments' (sym e ∙ e') in
    header_once H H' p q (lines_once (head_fields H) (head_fields H') (head_visible H p.states) (head_visible H' q.states) lines)
