-- The machine that a job works on, from the file and from the classes of its alike states.
use Rattle.std.proofs.Common.{◌≡◌, ◌≢◌, ℕ, true, false, List, Option, Some, None, refl, sym, ap, ◌∙◌, subst}
use Rattle.kiss_file.specs.declared.file.KissFile.{KissFile}
use Rattle.kiss_file.specs.LawfulFile.{IsLawful}
use Rattle.kiss_file.specs.Laws.Machine.{next_is_a_state}
use Rattle.state_reduce.specs.declared.demands.QuotientFail.{QuotientFail}
use Rattle.state_reduce.specs.declared.demands.QuotientFail.TheVariants as quotients
use Rattle.state_reduce.specs.declared.work.WorkMachine.{WorkMachine}
use Rattle.state_reduce.specs.AlikeStates.{IsEquivalence}
use Rattle.state_reduce.specs.Cause as causes
use Rattle.state_reduce.specs.Quotient.{AreBlocksInOrder, IsQuotient, block_number}
use Rattle.state_reduce.specs.Work.{AreClasses, AreWorkNames, IsWork}
use Rattle.state_reduce.specs.Laws.Unrefused.{unrefused}

-- the quotient by alike states is refused for want of memory alone
pub quotient_unrefused : (F : KissFile) (p : List ℕ) (fail : QuotientFail) → IsLawful F → IsEquivalence F p → fail ≢ quotients.NoMemory → causes.Caused F p fail → ⊥
quotient_unrefused F p fail lawful alike other caused = other (unrefused F p alike fail (λ s x inside size. next_is_a_state F s x lawful inside) caused)

-- the alike states of the file are those of its machine
pub alike_of : (M F : KissFile) (p : List ℕ) → M ≡ F → IsEquivalence M p → IsEquivalence F p
alike_of M F p is alike = subst (λ (H : KissFile). IsEquivalence H p) is alike

-- the machine of the classes is the work machine
pub reduced_is : (F Q : KissFile) (work : WorkMachine) (p : List ℕ) → work.file.now ≡ F → IsEquivalence F p → IsQuotient F p Q → AreBlocksInOrder F p Q → work.machine ≡ Q → work.classes ≡ Some p → work.names ≡ Some Q.states → IsWork true F work
reduced_is F Q work p file alike quotient in_order machine classes names =
    record {
      file = file;
      class = block_number F p;
      machine = record { classes = p; alike = alike; quotient = subst (IsQuotient F p) (sym machine) quotient; in_order = subst (AreBlocksInOrder F p) (sym machine) in_order; class_of = λ s. refl };
      classes = subst (AreClasses true F) (sym classes) alike;
      names = subst (AreWorkNames F work.machine) (sym names) (ap (λ (H : KissFile). H.states) (sym machine));
    }

-- and so is that of the file itself
pub file_is : (F : KissFile) (work : WorkMachine) → work.file.now ≡ F → work.machine ≡ F → work.classes ≡ None → work.names ≡ None → IsWork false F work
file_is F work file machine classes names =
    record {
      file = file;
      class = λ s. s;
      machine = record { file = machine; class_of = λ s. refl };
      classes = subst (AreClasses false F) (sym classes) refl;
      names = subst (AreWorkNames F work.machine) (sym names) (ap (λ (H : KissFile). H.states) machine);
    }

-- the names that are kept are those of the states of the work machine
pub own_names : (F W : KissFile) (names kept : List (List ℕ)) (held : Option (List (List ℕ))) → held ≡ Some kept → kept ≡ names → AreWorkNames F W held → names ≡ W.states
own_names F W names kept held some is are = sym is ∙ subst (AreWorkNames F W) some are

-- without any they are the names of the file's states
pub file_names : (F W : KissFile) (held : Option (List (List ℕ))) → held ≡ None → AreWorkNames F W held → W.states ≡ F.states
file_names F W held none are = subst (AreWorkNames F W) none are
