-- What `reduce` prints: the machine of the classes of alike states.
use Rattle.std.specs.Prelude.{◌≡◌, ℕ, Bool, List}
use Rattle.kiss_file.specs.declared.fill.Fill.{Fill}
use Rattle.kiss_file.specs.declared.file.KissFile.{KissFile}
use Rattle.kiss2.specs.Kiss.{Kiss}
use Rattle.kiss_file.specs.LawfulFile.{IsLawful}
use Rattle.kiss_file.specs.Machine.{Accepted, answers}
use Rattle.kiss2.specs.KissText.{kiss_text}
use Rattle.state_reduce.specs.AlikeStates.{AreUnlike, IsEquivalence, IsWord}
use Rattle.state_reduce.specs.Quotient.{AnswersAsMembers, AreBlocksInOrder, IsQuotient}

-- Q is the machine of the classes of alike states of F, in order. No two states of Q are alike. Each state of Q
-- answers every word as the states of its class do, and its reset state answers as that of F does.
pub record IsReduced (F : KissFile) (fill : Fill) (classes : List ℕ) (Q : KissFile) : Type 0 where
  pub alike : IsEquivalence F classes
  pub quotient : IsQuotient F classes Q
  pub in_order : AreBlocksInOrder F classes Q
  pub lawful : IsLawful Q
  pub accepted : Accepted Q fill
  pub apart : AreUnlike Q
  pub members : AnswersAsMembers F classes Q
  pub reset : (word : List (List Bool)) → IsWord F.inputs word → answers Q Q.reset word ≡ answers F F.reset word

-- the text is the text of the reduced machine, and denotes this machine when it is read
abbrev pub IsReducedText : KissFile → Fill → List ℕ → Type 0
IsReducedText F fill text =
    (classes : List ℕ) × (Q : KissFile) × IsReduced F fill classes Q × (text ≡ kiss_text Q) × Kiss text Q
