-- The machines of a split answer as the machine of the file.
use Rattle.std.proofs.Common.{◌≡◌, ◌∙◌, ℕ, Bool, true, false, List, map, sym, ap, subst}
use Rattle.decomposition.specs.Laws.Carrying.{work_lawful}
use Rattle.kiss_file.specs.declared.file.KissFile.{KissFile}
use Rattle.kiss_file.specs.LawfulFile.{IsLawful}
use Rattle.kiss_file.specs.Machine.{Conflicting, answers}
use Rattle.state_reduce.specs.WorkMachine.{IsWorkMachine}
use Rattle.state_reduce.proofs.Working.{classes_answer_alike}
use Rattle.part_texts.specs.SplitMachine.{IsSplitMachine}
use Rattle.part_laws.specs.Parts.{MachinesAnswer}
use Rattle.part_laws.specs.Together.{AnswerTogether, at_reset}
use Rattle.part_laws.proofs.Reading.{IsSplitUp}
use Rattle.part_laws.proofs.Stepping.{answer_as_work}

-- the machine that a job works on is lawful, has the inputs of the file, and starts at the class of its reset state
record IsFit (F W : KissFile) (class : ℕ → ℕ) : Type 0 where
  machine : IsLawful W
  inputs : W.inputs ≡ F.inputs
  reset : W.reset ≡ class F.reset

fit : (reduce : Bool) (F W : KissFile) (class : ℕ → ℕ) → IsLawful F → (Conflicting F → ⊥) → IsWorkMachine reduce F W class → IsFit F W class
fit true F W class lawful no_conflict work = record {
  machine = work_lawful true F W class lawful no_conflict work;
  inputs = (work.quotient).inputs;
  reset = (work.quotient).reset ∙ sym (work.class_of F.reset);
}
fit false F W class lawful no_conflict work = record {
  machine = work_lawful false F W class lawful no_conflict work;
  inputs = ap (λ (M : KissFile). M.inputs) work.file;
  reset = ap (λ (M : KissFile). M.reset) work.file ∙ sym (work.class_of F.reset);
}

pub machines_answer : MachinesAnswer
machines_answer kind text reduce F W parts code sets names numbers machines Z apart are word long =
    let of_job : IsSplitMachine kind text reduce F W parts code sets names = apart.split in
    let work = of_job.work in
    let fits : IsFit F W work.0 = fit reduce F W work.0 apart.lawful apart.no_conflict work.1 in
    let split : IsSplitUp F W parts code sets names = record {
      lawful = apart.lawful;
      machine = fits.machine;
      inputs = fits.inputs;
      parts_are = of_job.lawful;
      short = of_job.coded.short;
      reads = of_job.reads;
      own = of_job.own;
    } in
    let same : answers W W.reset word ≡ answers F F.reset word =
    ap (λ (s : ℕ). answers W s word) fits.reset
    ∙ classes_answer_alike reduce F W work.0 apart.lawful apart.no_conflict work.1 F.reset word (apart.lawful).reset long in
    let made = answer_as_work F W parts code sets names numbers machines Z split are word long in
    (made.0, subst (λ (bits : List (List Bool)). AnswerTogether names.inputs Z (map at_reset machines) word bits made.0) same made.1, made.2)
