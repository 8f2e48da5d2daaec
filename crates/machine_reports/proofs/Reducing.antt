-- What `reduce` makes of a machine is right, and it is never refused.
use Rattle.std.proofs.Common.{◌≡◌, ◌≢◌, ℕ, List, sym, ap, ◌∙◌, subst}
use Rattle.kiss_file.specs.declared.fill.Fill.{Fill}
use Rattle.kiss_file.specs.declared.file.KissFile.{KissFile}
use Rattle.kiss2.specs.Kiss.{Kiss}
use Rattle.kiss_file.specs.LawfulFile.{IsLawful}
use Rattle.kiss_file.specs.Machine.{Accepted, answers}
use Rattle.kiss2.specs.KissText.{kiss_text}
use Rattle.kiss_file.specs.Laws.Machine.{next_is_a_state}
use Rattle.kiss2_laws.proofs.RoundTrip.{says_again}
use Rattle.state_reduce.specs.declared.demands.QuotientFail.{QuotientFail}
use Rattle.state_reduce.specs.declared.demands.QuotientFail.TheVariants.{NoMemory}
use Rattle.state_reduce.specs.AlikeStates.{AreUnlike, IsEquivalence}
use Rattle.state_reduce.specs.Cause.{Caused}
use Rattle.state_reduce.specs.Quotient.{AnswersAsMembers, AreBlocksInOrder, IsQuotient}
use Rattle.state_reduce.specs.Laws.Unrefused.{unrefused}
use Rattle.machine_reports.specs.ReducedText.{IsReduced, IsReducedText}

-- the alike states of the file are those of its machine
pub alike_of : (M F : KissFile) (p : List ℕ) → M ≡ F → IsEquivalence M p → IsEquivalence F p
alike_of M F p is alike = subst (λ (H : KissFile). IsEquivalence H p) is alike

module _ (F : KissFile) (p : List ℕ) (lawful : IsLawful F) (alike : IsEquivalence F p) where
  -- no refusal but for memory
  pub never_refused : (fail : QuotientFail) → fail ≢ NoMemory → Caused F p fail → ⊥
  never_refused fail other caused =
      other (unrefused F p alike fail (λ s x inside size. next_is_a_state F s x lawful inside) caused)

  -- and the text of the quotient is right
  pub right_reduced : (fill : Fill) (Q : KissFile) (text : List ℕ) → IsQuotient F p Q → AreBlocksInOrder F p Q → IsLawful Q → Accepted Q fill → AreUnlike Q → AnswersAsMembers F p Q → text ≡ kiss_text Q → IsReducedText F fill text
  right_reduced fill Q text quotient in_order lawful_Q accepted_Q apart members written =
      let reduced : IsReduced F fill p Q = record {
        alike = alike;
        quotient = quotient;
        in_order = in_order;
        lawful = lawful_Q;
        accepted = accepted_Q;
        apart = apart;
        members = members;
        reset = λ word words. ap (λ (s : ℕ). answers Q s word) quotient.reset ∙ members F.reset word lawful.reset words;
      } in
      let read : Kiss text Q = subst (λ (t : List ℕ). Kiss t Q) (sym written) (says_again Q lawful_Q) in
      (p, Q, reduced, written, read)
