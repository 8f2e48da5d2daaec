-- The header is lawful, so the text that has it has no other.
use Rattle.std.proofs.Common.{◌≡◌, ℕ, zero, suc, ◌/◌, ◌^◌, ◌<◌, ◌≤◌, Bool, true, false, All, Option, Some, None, IfSome, List, length, get_or, sym, ap, ◌∙◌, subst, arith}
use Rattle.std.proofs.Math.Nat.{pow-suc}
use Rattle.std.specs.Int.{bit_at}
use Rattle.std.specs.List.{AllByRecursion}
use Rattle.std.proofs.lemmas.Bool.{false≢true}
use Rattle.std.proofs.lemmas.List.{get_or_default}
use Rattle.std.proofs.lemmas.List.Elements.{recursion_from_All}
use Rattle.std.proofs.lemmas.Nat.Bits.{bit_at-suc, bit_at-zero, same_from_bits}
use Rattle.std.proofs.lemmas.Option.{slice_get-get_or}
use Rattle.list_facts.specs.Laws.Places.{item_at}
use Rattle.blif_out.specs.declared.header.Header.{Header}
use Rattle.blif_out.specs.declared.header.LatchNote.{LatchNote}
use Rattle.blif_out.specs.HeadLaw.{IsLawfulHeader, IsLawfulNote, IsLawfulPart, IsLawfulPartition}
use Rattle.dependence.specs.declared.sets.ReadSet.{ReadSet}
use Rattle.hs_io.specs.Spelling.{ArePlainFields}
use Rattle.kiss_file.specs.declared.file.KissFile.{KissFile}
use Rattle.kiss_file.specs.LawfulFile.{IsLawful}
use Rattle.partition.specs.Partition.{IsPartition}
use Rattle.state_codes.specs.declared.Codes.{Codes}
use Rattle.state_codes.specs.declared.split.Part.{Part}
use Rattle.state_codes.specs.declared.split.Split.{Split}
use Rattle.state_codes.specs.Code.{IsCode}
use Rattle.state_codes.specs.Laws.Codes.{owner-lt}
use Rattle.state_codes.specs.Split.{IsPart}
use Rattle.decomposition.specs.Inner.Header.{HasSmallReads, IsHeaderOf, words_by}
use Rattle.decomposition.specs.Notes.{AreNotes, IsNoteOf}
use Rattle.state_reduce.specs.Work.{AreClasses}
use Rattle.decomposition.specs.Laws.Carrying.{ArePrinted, IsImage}
use Rattle.decomposition.proofs.Enough.{no_bit_past}
use Rattle.decomposition.specs.Laws.Writable.{plain_fields}

-- a partition of some number of states has a label for each
own_labels : (n : ℕ) (p : List ℕ) → IsPartition n p → IsLawfulPartition p
own_labels n p is = subst (λ (k : ℕ). IsPartition k p) (sym is.length) is

-- the classes are lawful, where there are classes
classes_lawful : (reduce : Bool) (F : KissFile) (classes : Option (List ℕ)) → AreClasses reduce F classes → IfSome classes IsLawfulPartition
classes_lawful true F (Some p) are = own_labels (length F.states) p are.lawful
classes_lawful true F None are = tt
classes_lawful false F (Some p) are = absurd (false≢true (sym are))
classes_lawful false F None are = tt

-- a number with no bit from a place on is below the power of two there
below_from_bits : (k number : ℕ) → ((i : ℕ) → k ≤ i → bit_at number i ≡ 0) → number < 2 ^ k
below_from_bits zero number none =
    let is : number ≡ 0 = same_from_bits number 0 (λ i. none i (omega arith) ∙ sym (bit_at-zero i)) in
    omega (arith, is)
below_from_bits (suc k) number none =
    let half : number / 2 < 2 ^ k = below_from_bits k (number / 2) (λ i past. sym (bit_at-suc number i) ∙ none (suc i) (omega arith)) in
    omega (arith, half, pow-suc 2 k)

module _ (F W : KissFile) (class : ℕ → ℕ) (split : Split) (codes : Codes) (sets : List ReadSet) (notes : List LatchNote) (grouping : Option (List ℕ)) (H : Header) (lawful : IsLawful F) (image : IsImage F W class) (code : IsCode (length W.states) split.parts codes)
    (parts : All (IsPart (length W.states)) split.parts) (few : length split.parts ≤ 256) (reads : All HasSmallReads split.parts) (count : length sets ≡ codes.bits) (header : IsHeaderOf F.states grouping split codes notes H) (noted : AreNotes codes sets H.latches)
    (printed : ArePrinted F class codes.words (words_by grouping codes.words)) where
  abbrev states : ℕ
  states = length W.states

  part_lawful : All IsLawfulPart split.parts
  part_lawful k d lt = record {
    partition = own_labels states (get_or split.parts k d).partition (parts k d lt).partition;
    carrier = own_labels states (get_or split.parts k d).carrier (parts k d lt).carrier;
    reads = recursion_from_All (λ number. number < 2 ^ 16) (get_or split.parts k d).reads (reads k d lt);
  }

  -- a word has no bits but those of its code
  word_below : All (λ word. word < 2 ^ codes.bits) (words_by grouping codes.words)
  word_below s d lt =
      let in_s : s < length F.states = omega (arith, lt, printed.count) in
      subst (λ (word : ℕ). word < 2 ^ codes.bits) (sym (printed.each s in_s) ∙ get_or_default (words_by grouping codes.words) s 0 d lt)
      (below_from_bits codes.bits (get_or codes.words (class s) 0) (λ i past. no_bit_past states split.parts codes code (class s) i (image.states s in_s) past))

  note_lawful : All IsLawfulNote H.latches
  note_lawful i d lt =
      let note : LatchNote = get_or H.latches i d in
      let in_i : i < codes.bits = omega (arith, lt, noted.count, count) in
      let set = item_at sets i (omega (arith, in_i, count)) in
      let is : IsNoteOf codes i set.0 note = noted.each i set.0 note set.1 (slice_get-get_or H.latches i d lt) in
      record {
        part = omega (arith, is.part, owner-lt states split.parts codes code i in_i);
        from = own_labels (length codes.words) note.from is.from.lawful;
        to = own_labels (length codes.words) note.to is.to.lawful;
      }

  pub header_lawful : (reduce : Bool) → AreClasses reduce F grouping → IsLawfulHeader H
  header_lawful reduce are =
      let bits : length H.latches ≡ codes.bits = noted.count ∙ count in
      let Below : ℕ → ℕ → Type 0 = λ bits word. word < 2 ^ bits in
      record {
        classes = subst (λ (o : Option (List ℕ)). IfSome o IsLawfulPartition) (sym header.classes) (classes_lawful reduce F grouping are);
        parts = subst (λ (list : List Part). AllByRecursion IsLawfulPart list) (sym header.parts) (recursion_from_All IsLawfulPart split.parts part_lawful);
        states = subst ArePlainFields (sym header.states) (plain_fields F lawful);
        counted = ap (λ (words : List ℕ). length words) header.words ∙ printed.count ∙ ap (λ (names : List (List ℕ)). length names) (sym header.states);
        words =
            subst (λ (k : ℕ). AllByRecursion (Below k) H.words) (sym bits)
            (subst (λ (words : List ℕ). AllByRecursion (Below codes.bits) words) (sym header.words) (recursion_from_All (Below codes.bits) (words_by grouping codes.words) word_below));
        latches = recursion_from_All IsLawfulNote H.latches note_lawful;
      }
