-- An answer of the reader is the one that the text has.
use Rattle.std.proofs.Common.{◌≡◌, ◌⊎◌, ℕ, List, Result, Ok, Err, refl, ap, inl, inr}
use Rattle.std.specs.Prelude.{IfOk, MatchResult}
use Rattle.kiss2.specs.declared.fault.KissFail.{KissFail}
use Rattle.kiss2.specs.declared.fault.KissFail.TheVariants.{NoMemory, Refused}
use Rattle.kiss2.specs.declared.fault.KissFault.{KissFault}
use Rattle.kiss2.specs.declared.fault.KissKind.{KissKind}
use Rattle.kiss_file.specs.declared.file.KissFile.{KissFile}
use Rattle.kiss2.specs.Kiss.{IsKissFault, Kiss, NeverBoth, OneFile, lines_read}
use Rattle.kiss2.specs.Laws.Closing.{some_rows}
use Rattle.kiss2.proofs.OneFault.{never_both, one_fault}
use Rattle.kiss2.specs.Laws.SameRecord.{one_record}

-- an answer of the reader
pub record IsRight (bytes : List ℕ) (result : Result KissFile KissFail) : Type 0 where
  pub read : IfOk result (λ file. Kiss bytes file)
  pub refused : (fault : KissFault) → result ≡ Err (Refused fault) → IsKissFault bytes fault.line fault.kind

pub one_file : OneFile
one_file bytes F G first second = one_record (lines_read bytes) F G (some_rows (lines_read bytes) first.closed) first.whole second.whole

pub machine_or_fault : NeverBoth
machine_or_fault bytes F number kind read fault = never_both (lines_read bytes) number kind read.faultless read.closed fault

pub never_refused : (bytes : List ℕ) (result : Result KissFile KissFail) → IsRight bytes result → (file : KissFile) → Kiss bytes file → MatchResult result (λ read. read ≡ file) (λ fail. fail ≡ NoMemory)
never_refused bytes (Ok read) right file kiss = one_file bytes read file right.read kiss
never_refused bytes (Err (Refused fault)) right file kiss = absurd (machine_or_fault bytes file fault.line fault.kind kiss (right.refused fault refl))
never_refused bytes (Err NoMemory) right file kiss = refl

pub same_fault : (f g : KissFault) → f.line ≡ g.line → f.kind ≡ g.kind → f ≡ g
same_fault f g p q = same f.line g.line f.kind g.kind p q where
  same : (m n : ℕ) (k l : KissKind) → m ≡ n → k ≡ l → ◌≡◌ {A = KissFault} (record { line = m; kind = k }) (record { line = n; kind = l })
  same m n k l p q = cc

pub never_read : (bytes : List ℕ) (result : Result KissFile KissFail) → IsRight bytes result → (fault : KissFault) → IsKissFault bytes fault.line fault.kind
    → MatchResult result (λ _. ⊥) (λ fail. (fail ≡ Refused fault) ⊎ (fail ≡ NoMemory))
never_read bytes (Ok read) right fault is = machine_or_fault bytes read fault.line fault.kind right.read is
never_read bytes (Err (Refused other)) right fault is =
    let same = one_fault (lines_read bytes) other.line fault.line other.kind fault.kind (right.refused other refl) is in
    inl (ap Refused (same_fault other fault same.0 same.1))
never_read bytes (Err NoMemory) right fault is = inr refl
