-- The fields of a header have visible bytes alone, so its lines are comments.
use Rattle.std.proofs.Common.{zero, suc, ◌≡◌, ◌≢◌, ℕ, ◌+◌, ◌/◌, ◌%◌, ◌<◌, Bool, true, false, cond, eqb, ltb, List, [], ◌∷◌, ◌++◌, Option, None, Some, map, length, refl, arith, codes}
use Rattle.std.specs.Fmt.{decimal, digits, digits_onto, digit_glyph}
use Rattle.std.specs.Int.{bit_at}
use Rattle.std.specs.List.{flat_map, enumerate_from, range_with_len, zip, AllByRecursion}
use Rattle.std.proofs.lemmas.Bool.Decides.{nat_tests}
use Rattle.std.proofs.lemmas.Nat.Bits.{bit_at-lt}
use Rattle.list_facts.specs.Laws.Everywhere.{each_append, each_weaker}
use Rattle.hs_io.specs.Spelling.{spaced, ArePlainFields, IsFieldByte, IsComment}
use Rattle.partition.specs.Text.{labels_text}
use Rattle.state_codes.specs.declared.split.Kind.{Kind}
use Rattle.state_codes.specs.declared.split.Kind.TheVariants.{Code, Assign, Parallel, Serial, Cascade, Feedback, Least}
use Rattle.state_codes.specs.declared.split.Part.{Part}
use Rattle.blif_out.specs.declared.header.Header.{Header}
use Rattle.blif_out.specs.declared.header.LatchNote.{LatchNote}
use Rattle.blif_out.specs.Head.{kind_word, kind_fields, classes_fields, numbers_text, part_fields, bits_of, bit_text, state_fields, note_fields, head_fields, head_lines, comment_text}
use Rattle.blif_out.specs.Laws.Words.{name_word}

abbrev pub IsVisible : List ℕ → Type 0
IsVisible text = AllByRecursion IsFieldByte text

abbrev pub AreVisible : List (List ℕ) → Type 0
AreVisible fields = AllByRecursion IsVisible fields

digit_visible : (d : ℕ) → d < 10 → IsFieldByte (48 + d)
digit_visible d small = record { low = omega arith; high = omega (arith, small); no_comment = λ e. absurd (omega (arith, e)) }

glyph_visible : (n : ℕ) → IsFieldByte (digit_glyph false (n % 10))
glyph_visible n =
    let small : n % 10 < 10 = omega arith in
    let test : ltb (n % 10) 10 ≡ true = grind (arith, nat_tests) in
    rw test (digit_visible (n % 10) small)

either_visible : (first : Bool) (a b : List ℕ) → IsVisible a → IsVisible b → IsVisible (cond first a b)
either_visible true a b p q = p
either_visible false a b p q = q

digits_visible : (k n : ℕ) (after : List ℕ) → IsVisible after → IsVisible (digits_onto k 10 false n after)
digits_visible zero n after p = p
digits_visible (suc k) n after p =
    let more : List ℕ = digit_glyph false (n % 10) ∷ after in
    either_visible (eqb (n / 10) 0) more (digits_onto k 10 false (n / 10) more) (glyph_visible n, p) (digits_visible k (n / 10) more (glyph_visible n, p))

pub decimal_visible : (n : ℕ) → IsVisible (decimal n)
unfolding digits
decimal_visible n = digits_visible 64 n [] tt

pub text_visible : (labels : List ℕ) → IsVisible (labels_text labels)
text_visible [] = tt
text_visible (label ∷ []) = decimal_visible label
text_visible (label ∷ next ∷ labels) =
    each_append IsFieldByte (decimal label) (44 ∷ labels_text (next ∷ labels)) (decimal_visible label) (record { low = omega arith; high = omega arith; no_comment = λ e. absurd (omega arith) }, text_visible (next ∷ labels))

numbers_visible : (numbers : List ℕ) → IsVisible (numbers_text numbers)
numbers_visible [] = (name_word (codes "-") (omega arith) refl).field.visible
numbers_visible (number ∷ numbers) = text_visible (number ∷ numbers)

some_bits_visible : (word : ℕ) (places : List ℕ) → IsVisible (map (λ i. 48 + bit_at word i) places)
some_bits_visible word [] = tt
some_bits_visible word (i ∷ places) = (digit_visible (bit_at word i) (omega (arith, bit_at-lt word i)), some_bits_visible word places)

bit_text_visible : (bits : List ℕ) → IsVisible bits → IsVisible (bit_text bits)
bit_text_visible [] p = (name_word (codes "-") (omega arith) refl).field.visible
bit_text_visible (bit ∷ bits) p = p

pub kind_visible : (kind : Kind) → AreVisible (kind_fields kind)
kind_visible kind = ((name_word (codes "hsdec") (omega arith) refl).field.visible, (word kind, tt))
  where
    word : (kind : Kind) → IsVisible (kind_word kind)
    word Code = (name_word (codes "code") (omega arith) refl).field.visible
    word Assign = (name_word (codes "assign") (omega arith) refl).field.visible
    word Parallel = (name_word (codes "parallel") (omega arith) refl).field.visible
    word Serial = (name_word (codes "serial") (omega arith) refl).field.visible
    word Cascade = (name_word (codes "cascade") (omega arith) refl).field.visible
    word Feedback = (name_word (codes "feedback") (omega arith) refl).field.visible
    word Least = (name_word (codes "least") (omega arith) refl).field.visible

classes_visible : (classes : Option (List ℕ)) → AllByRecursion AreVisible (classes_fields classes)
classes_visible None = tt
classes_visible (Some classes) = (((name_word (codes "classes") (omega arith) refl).field.visible, (text_visible classes, tt)), tt)

part_visible : (part : ℕ × Part) → AreVisible (part_fields part)
part_visible (number, part) =
    ((name_word (codes "part") (omega arith) refl).field.visible, (decimal_visible number, (text_visible part.partition, ((name_word (codes "carrier") (omega arith) refl).field.visible, (text_visible part.carrier, ((name_word (codes "reads") (omega arith) refl).field.visible, (numbers_visible part.reads, tt)))))))

note_visible : (latch : ℕ × LatchNote) → AreVisible (note_fields latch)
note_visible (number, latch) =
    ((name_word (codes "latch") (omega arith) refl).field.visible, (decimal_visible number, ((name_word (codes "part") (omega arith) refl).field.visible, (decimal_visible latch.part, ((name_word (codes "from") (omega arith) refl).field.visible, (text_visible latch.from, ((name_word (codes "to") (omega arith) refl).field.visible, (text_visible latch.to, tt))))))))

each_visible : {X : Type 0} (f : X → List (List ℕ)) → ((x : X) → AreVisible (f x)) → (xs : List X) → AllByRecursion AreVisible (map f xs)
each_visible f p [] = tt
each_visible f p (x ∷ xs) = (p x, each_visible f p xs)

states_visible : (bits : ℕ) (names : List (List ℕ)) (words : List ℕ) → ArePlainFields names → AllByRecursion AreVisible (map (state_fields bits) (zip names words))
states_visible bits [] words p = tt
states_visible bits (name ∷ names) [] p = tt
states_visible bits (name ∷ names) (word ∷ words) (p, ps) =
    (((name_word (codes "code") (omega arith) refl).field.visible, (p.visible, (bit_text_visible (bits_of bits word) (some_bits_visible word (range_with_len 0 bits)), tt))), states_visible bits names words ps)

-- the fields of a header
pub head_visible : (H : Header) → ArePlainFields H.states → AllByRecursion AreVisible (head_fields H)
head_visible H plain =
    let parts : List (List (List ℕ)) = map part_fields (enumerate_from 0 H.parts) in
    let states : List (List (List ℕ)) = map (state_fields (length H.latches)) (zip H.states H.words) in
    let notes : List (List (List ℕ)) = map note_fields (enumerate_from 0 H.latches) in
    let classes : List (List (List ℕ)) = classes_fields H.classes in (
      kind_visible H.kind,
      each_append AreVisible (classes ++ parts ++ states) notes
          (each_append AreVisible (classes ++ parts) states
          (each_append AreVisible classes parts (classes_visible H.classes) (each_visible part_fields part_visible (enumerate_from 0 H.parts)))
          (states_visible (length H.latches) H.states H.words plain))
          (each_visible note_fields note_visible (enumerate_from 0 H.latches)),
    )

-- visible fields stand in one line
within_line : (fields : List (List ℕ)) → AreVisible fields → AllByRecursion (λ b. b ≢ 10) (flat_map spaced fields)
within_line [] p = tt
within_line (field ∷ fields) (p, ps) =
    (λ e. absurd (omega (arith, e)), each_append (λ b. b ≢ 10) field (flat_map spaced fields) (each_weaker IsFieldByte (λ b. b ≢ 10) (λ b h e. absurd (omega (arith, h.low, e))) field p) (within_line fields ps))

comments_of : (lines : List (List (List ℕ))) → AllByRecursion AreVisible lines → AllByRecursion IsComment (map comment_text lines)
comments_of [] p = tt
comments_of (fields ∷ lines) (p, ps) = ((refl, within_line fields p), comments_of lines ps)

pub head_comments : (H : Header) → ArePlainFields H.states → AllByRecursion IsComment (head_lines H)
head_comments H plain = comments_of (head_fields H) (head_visible H plain)
