-- The machine that a job works on answers as that of its file.
use Rattle.std.proofs.Common.{ℕ, true, false, List, ap, ◌∙◌}
use Rattle.kiss_file.specs.declared.file.KissFile.{KissFile}
use Rattle.kiss_file.specs.Machine.{answers}
use Rattle.kiss_file.specs.Laws.Machine.{next_is_a_state}
use Rattle.machine_table.specs.NextStates.{NeverLeaves}
use Rattle.machine_table.specs.Table.{IsTable}
use Rattle.state_pairs.specs.Laws.Lawful.{table_of_lawful}
use Rattle.pair_operators.specs.Pair.{Closed}
use Rattle.state_reduce.specs.WorkMachine.{ClassesAnswerAlike}
use Rattle.state_reduce.specs.Inner.BlockNames.{AreAllNamed}
use Rattle.state_reduce.proofs.AllNamed.{all_named}
use Rattle.state_reduce.proofs.Answered.{answers_as_members}
use Rattle.state_reduce.specs.Laws.Unrefused.{alike_closed, alike_consistent}

pub classes_answer_alike : ClassesAnswerAlike
classes_answer_alike true F W class lawful no_conflict work s word inside words =
    let p : List ℕ = work.classes in
    let table : IsTable F = table_of_lawful F lawful in
    let stays : NeverLeaves F = λ t x within size. next_is_a_state F t x lawful within in
    let closed : Closed F p = alike_closed F p work.alike stays in
    let named : AreAllNamed F p = all_named F p table work.alike.lawful.length lawful.numbered no_conflict closed in
    ap (λ (c : ℕ). answers W c word) (work.class_of s)
    ∙ answers_as_members F p lawful.distinct work.alike.lawful.length named table W work.quotient closed (alike_consistent F p work.alike) s word inside words
classes_answer_alike false F W class lawful no_conflict work s word inside words =
    ap (λ (c : ℕ). answers W c word) (work.class_of s) ∙ ap (λ (M : KissFile). answers M s word) work.file
