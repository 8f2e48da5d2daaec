-- A command works on only one machine.
use Rattle.std.proofs.Common.{◌≡◌, ℕ, ◌<◌, Bool, true, false, List, Option, length, sym, ◌∙◌, subst, arith}
use Rattle.kiss_file.specs.declared.file.KissFile.{KissFile}
use Rattle.kiss_file.specs.declared.file.KissRow.{KissRow}
use Rattle.partition.specs.Partition.{Together}
use Rattle.partition.specs.Laws.Labels.{same_labels}
use Rattle.state_reduce.specs.AlikeStates.{IsEquivalence}
use Rattle.state_reduce.specs.Quotient.{IsQuotient}
use Rattle.state_reduce.specs.WorkMachine.{IsWorkMachine}
use Rattle.state_reduce.specs.declared.work.WorkMachine.{WorkMachine}
use Rattle.state_reduce.specs.Work.{IsWork, IsWorkOf}

-- there is only one partition into alike states
held_by : (F : KissFile) (p q : List ℕ) → IsEquivalence F p → IsEquivalence F q → (s t : ℕ) → Together p s t → Together q s t
held_by F p q one other s t held =
    let in_s : s < length F.states = omega (arith, held.0, one.lawful.length) in
    let in_t : t < length F.states = omega (arith, held.1, one.lawful.length) in
    (other.together s t in_s in_t).1 ((one.together s t in_s in_t).0 held)

equivalence_once : (F : KissFile) (p q : List ℕ) → IsEquivalence F p → IsEquivalence F q → p ≡ q
equivalence_once F p q one other =
    same_labels p q one.lawful.numbered other.lawful.numbered (one.lawful.length ∙ sym other.lawful.length)
    (λ s t. (held_by F p q one other s t, held_by F q p other one s t))

-- there is only one machine of its classes
same_files : (a b c d e f : ℕ) (g h : List (List ℕ)) (i j : List KissRow) (k l m n : Option (List (List ℕ))) → a ≡ b → c ≡ d → e ≡ f → g ≡ h → i ≡ j → k ≡ l → m ≡ n
    → ◌≡◌ {A = KissFile} (record { inputs = a; outputs = c; reset = e; states = g; rows = i; input_names = k; output_names = m })
    (record { inputs = b; outputs = d; reset = f; states = h; rows = j; input_names = l; output_names = n })
same_files a b c d e f g h i j k l m n p q r s t u v = cc

quotient_once : (F W V : KissFile) (p : List ℕ) → IsQuotient F p W → IsQuotient F p V → W ≡ V
quotient_once F W V p one other =
    same_files W.inputs V.inputs W.outputs V.outputs W.reset V.reset W.states V.states W.rows V.rows W.input_names V.input_names W.output_names V.output_names
    (one.inputs ∙ sym other.inputs) (one.outputs ∙ sym other.outputs) (one.reset ∙ sym other.reset) (one.states ∙ sym other.states) (one.rows ∙ sym other.rows)
    (one.input_names ∙ sym other.input_names) (one.output_names ∙ sym other.output_names)

work_once : (reduce : Bool) (F W V : KissFile) (class other_class : ℕ → ℕ) → IsWorkMachine reduce F W class → IsWorkMachine reduce F V other_class → W ≡ V
work_once true F W V class other_class one other =
    quotient_once F W V one.classes one.quotient
    (subst (λ (p : List ℕ). IsQuotient F p V) (equivalence_once F other.classes one.classes other.alike one.alike) other.quotient)
work_once false F W V class other_class one other = one.file ∙ sym other.file

-- a command works on one machine, with `--reduce` and without
pub one_work : (reduce : Bool) (F W V : KissFile) → IsWorkOf reduce F W → IsWorkOf reduce F V → W ≡ V
one_work reduce F W V (class, one) (other_class, other) = work_once reduce F W V class other_class one other

-- what is the work machine of a file is that of the file that stands beside it
pub with_its_file : (reduce : Bool) (F : KissFile) (work : WorkMachine) → IsWork reduce F work → IsWork reduce work.file.now work
with_its_file reduce F work is = subst (λ (G : KissFile). IsWork reduce G work) (sym is.file) is
