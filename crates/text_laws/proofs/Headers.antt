-- The headers of one machine's texts with one split are one.
use Rattle.std.proofs.Common.{◌≡◌, ◌∙◌, ℕ, Bool, true, false, List, Option, None, Some, length, get_or, refl, sym, ap, arith}
use Rattle.std.proofs.lemmas.List.{ext_get_or}
use Rattle.blif_out.specs.declared.header.Header.{Header}
use Rattle.blif_out.specs.declared.header.LatchNote.{LatchNote}
use Rattle.decomposition.specs.Decomposition.{PrintsCodes}
use Rattle.kiss_file.specs.declared.file.KissFile.{KissFile}
use Rattle.state_codes.specs.declared.Codes.{Codes}
use Rattle.state_codes.specs.declared.split.Kind.{Kind}
use Rattle.state_codes.specs.declared.split.Part.{Part}
use Rattle.state_reduce.specs.AlikeStates.{Alike, IsEquivalence}
use Rattle.state_reduce.specs.Quotient.{block_number}
use Rattle.state_reduce.specs.Work.{AreClasses}
use Rattle.state_reduce.specs.WorkMachine.{IsWorkMachine}
use Rattle.text_laws.specs.Laws.Notes.{partition_once}

equivalence_once : (F : KissFile) (p q : List ℕ) → IsEquivalence F p → IsEquivalence F q → p ≡ q
equivalence_once F p q one other = partition_once (length F.states) p q (Alike F) one.lawful other.lawful one.together other.together

-- the file determines the class of each state
pub class_once : (reduce : Bool) (F W : KissFile) (class more : ℕ → ℕ) → IsWorkMachine reduce F W class → IsWorkMachine reduce F W more → (s : ℕ) → class s ≡ more s
class_once true F W class more one other s =
    one.class_of s ∙ ap (λ (p : List ℕ). block_number F p s) (equivalence_once F one.classes other.classes one.alike other.alike) ∙ sym (other.class_of s)
class_once false F W class more one other s = one.class_of s ∙ sym (other.class_of s)

-- the file determines the classes
pub classes_once : (reduce : Bool) (F : KissFile) (one other : Option (List ℕ)) → AreClasses reduce F one → AreClasses reduce F other → one ≡ other
classes_once true F (Some p) (Some q) is also = ap (λ (r : List ℕ). Some r) (equivalence_once F p q is also)
classes_once true F (Some p) None is also = absurd also
classes_once true F None other is also = absurd is
classes_once false F None None is also = refl
classes_once false F None (Some q) is also = cc
classes_once false F (Some p) other is also = cc

-- the codes and the classes determine the words
pub words_once : (F : KissFile) (class more : ℕ → ℕ) (codes : Codes) (H K : Header) → ((s : ℕ) → class s ≡ more s) → PrintsCodes F class codes H → PrintsCodes F more codes K → H.words ≡ K.words
words_once F class more codes H K same one other =
    ext_get_or 0 H.words K.words (one.count ∙ sym other.count) (λ s within.
    one.words s (omega (arith, within, one.count)) ∙ ap (λ (state : ℕ). get_or codes.words state 0) (same s) ∙ sym (other.words s (omega (arith, within, one.count))))

pub same_header : (a b : Kind) (c d : Option (List ℕ)) (e f : List Part) (g h : List (List ℕ)) (i j : List ℕ) (k l : List LatchNote) → a ≡ b → c ≡ d → e ≡ f → g ≡ h → i ≡ j → k ≡ l
    → ◌≡◌ {A = Header} (record { kind = a; classes = c; parts = e; states = g; words = i; latches = k }) (record { kind = b; classes = d; parts = f; states = h; words = j; latches = l })
same_header a b c d e f g h i j k l p q r s t u = cc
