use Rattle.std.proofs.Common.{◌≡◌, ◌∙◌, List, ℕ, Some, ap, length, slice_get, subst, sym}
use Rattle.std.proofs.lemmas.Result.{err_from_is_err_and}
use Rattle.kiss_file.specs.declared.file.KissFile.{KissFile}
use Rattle.kiss_file.specs.LawfulFile.{AreNumbered}
use Rattle.kiss_file.specs.Machine.{Conflicting}
use Rattle.kiss_file.specs.Names.{AreDistinct}
use Rattle.machine_table.specs.Pairs.{AgreeAt}
use Rattle.machine_table.specs.Table.{IsTable}
use Rattle.pair_operators.specs.Consistency.{Consistent}
use Rattle.pair_operators.specs.Pair.{Closed}
use Rattle.machine_table.specs.NextStates.{NeverLeaves}
use Rattle.partition.specs.Partition.{IsPartition}
use Rattle.state_reduce.specs.Cause.{IsFirstFailing}
use Rattle.state_reduce.specs.declared.demands.Demand.TheVariants.{NextStates, Outputs}
use Rattle.state_reduce.specs.Inner.Demands.{IsMetByAll}
use Rattle.state_reduce.specs.Inner.BlockNames.{AreAllNamed}
use Rattle.state_reduce.specs.Quotient.{block_name, block_number}
use Rattle.state_reduce.proofs.Accepting.{blocks_accepted, blocks_apart}
use Rattle.state_reduce.proofs.AllNamed.{all_named}
use Rattle.state_reduce.proofs.Answered.{answers_as_members}
use Rattle.state_reduce.proofs.Judged.{closed_from_demand, consistent_from_demand}
use Rattle.state_reduce.proofs.Lawfully.{blocks_lawful, blocks_numbered, blocks_table}
use Rattle.state_reduce.proofs.Numbers.{number_has}
use Rattle.state_reduce.proofs.Ordered.{blocks_in_order, with_row_in_order}
use Rattle.state_reduce.proofs.block_machine.quotient.Goals as goal

-- what is known of the file by way of its machine
module _ (F G : KissFile) (p : List ℕ) (built : G ≡ F) (size : length p ≡ length F.states) where
  closed_by : NeverLeaves G → IsMetByAll NextStates G p → Closed F p
  closed_by inside met =
      subst (λ (H : KissFile). Closed H p) built (closed_from_demand G p (size ∙ sym (ap (λ (H : KissFile). length H.states) built)) inside met)

  consistent_by : IsMetByAll Outputs G p → Consistent F p
  consistent_by met = subst (λ (H : KissFile). Consistent H p) built (consistent_from_demand G p met)

  named_by : AreNumbered F → IsTable G → (Conflicting G → ⊥) → Closed F p → AreAllNamed F p
  named_by numbered table no_conflict closed =
      all_named F p (subst IsTable built table) size numbered (subst (λ (H : KissFile). Conflicting H → ⊥) built no_conflict) closed

pub returns-in-Some-first_against-clause-caused : goal.returns-in-Some-first_against-clause-caused
returns-in-Some-first_against-clause-caused c =
    let F = c.args.file.now in
    let p = c.args.p.now in (
      closed_by F c.args.m.now p c.requires.built c.requires.states c.keeps_its_states.ensures.next c.in_default.ensures.none,
      subst (λ (G : KissFile). IsFirstFailing AgreeAt G p c.in-Some-first_against.s c.in-Some-first_against.t c.in-Some-first_against.x) c.requires.built c.in-Some-first_against.ensures.some,
    )

pub file_of_blocks-requires-clause-each : goal.file_of_blocks-requires-clause-each
file_of_blocks-requires-clause-each c =
    let F = c.args.file.now in
    let p = c.args.p.now in
    let closed = closed_by F c.args.m.now p c.requires.built c.requires.states c.keeps_its_states.ensures.next c.in_default.ensures.none in
    named_by F c.args.m.now p c.requires.built c.requires.states c.requires.numbered c.keeps_its_states.ensures.table c.keeps_its_states.ensures.no_conflict closed

pub returns-in_err-file-clause-caused : goal.returns-in_err-file-clause-caused
returns-in_err-file-clause-caused c =
    let F = c.args.file.now in
    let p = c.args.p.now in
    let closed = closed_by F c.args.m.now p c.requires.built c.requires.states c.keeps_its_states.ensures.next c.in_default.ensures.none in
    let consistent = consistent_by F c.args.m.now p c.requires.built c.requires.states c.in_default-first_against.ensures.none in
    let fails = err_from_is_err_and c.from_residual.result c.from_residual.ensures.1 in
    rw (fails.1, fails.2) (closed, consistent)

-- what is known where a file is made
closed_there : (c : goal.In_ok-file) → Closed c.args.file.now c.args.p.now
closed_there c =
    closed_by c.args.file.now c.args.m.now c.args.p.now c.requires.built c.requires.states c.keeps_its_states.ensures.next c.in_default.ensures.none

consistent_there : (c : goal.In_ok-file) → Consistent c.args.file.now c.args.p.now
consistent_there c = consistent_by c.args.file.now c.args.m.now c.args.p.now c.requires.built c.requires.states c.in_default-first_against.ensures.none

table_there : (c : goal.In_ok-file) → IsTable c.args.file.now
table_there c = subst IsTable c.requires.built c.keeps_its_states.ensures.table

names_there : (c : goal.In_ok-file) → AreDistinct (c.args.file.now).states
names_there c = subst (λ (G : KissFile). AreDistinct G.states) c.requires.built c.keeps_its_states.ensures.names

named_there : (c : goal.In_ok-file) → AreAllNamed c.args.file.now c.args.p.now
named_there c =
    named_by c.args.file.now c.args.m.now c.args.p.now c.requires.built c.requires.states c.requires.numbered c.keeps_its_states.ensures.table c.keeps_its_states.ensures.no_conflict (closed_there c)

pub returns-clause-named : goal.returns-clause-named
returns-clause-named c s inside =
    let F = c.args.file.now in
    let p = c.args.p.now in
    subst (λ (states : List (List ℕ)). slice_get states (block_number F p s) ≡ Some (block_name F p s)) (sym (c.in_ok-file.ensures).states)
    (number_has F p (names_there c) (named_there c) s inside)

pub returns-clause-rows_in_order : goal.returns-clause-rows_in_order
returns-clause-rows_in_order c =
    let p = c.args.p.now in
    with_row_in_order c.args.file.now p (table_there c) (names_there c) c.requires.numbered (subst (λ (n : ℕ). IsPartition n p) c.requires.states c.first_against.ensures.partition)

pub returns-clause-in_order : goal.returns-clause-in_order
returns-clause-in_order c alike =
    blocks_in_order c.args.file.now c.args.p.now (table_there c) (names_there c) c.requires.numbered alike.lawful c.in_ok-file.file c.in_ok-file.ensures (named_there c) alike

pub returns-clause-closed : goal.returns-clause-closed
returns-clause-closed c = closed_there c

pub returns-clause-consistent : goal.returns-clause-consistent
returns-clause-consistent c = consistent_there c

pub returns-clause-table : goal.returns-clause-table
returns-clause-table c = blocks_table c.args.file.now c.args.p.now c.in_ok-file.file c.in_ok-file.ensures (names_there c) c.requires.states (table_there c) (named_there c)

pub returns-clause-numbered : goal.returns-clause-numbered
returns-clause-numbered c = blocks_numbered c.args.file.now c.args.p.now c.in_ok-file.file c.in_ok-file.ensures

pub returns-clause-lawful : goal.returns-clause-lawful
returns-clause-lawful c lawful =
    blocks_lawful c.args.file.now c.args.p.now c.in_ok-file.file c.in_ok-file.ensures (names_there c) c.requires.states (table_there c) (named_there c) lawful

pub returns-clause-accepted : goal.returns-clause-accepted
returns-clause-accepted c fill accepted =
    blocks_accepted c.args.file.now c.args.p.now c.in_ok-file.file c.in_ok-file.ensures (names_there c) c.requires.states (table_there c) (named_there c) fill accepted

pub returns-clause-answers : goal.returns-clause-answers
returns-clause-answers c =
    answers_as_members c.args.file.now c.args.p.now (names_there c) c.requires.states (named_there c) (table_there c) c.in_ok-file.file c.in_ok-file.ensures (closed_there c) (consistent_there c)

pub returns-clause-apart : goal.returns-clause-apart
returns-clause-apart c alike =
    blocks_apart c.args.file.now c.args.p.now c.in_ok-file.file c.in_ok-file.ensures (names_there c) c.requires.states (table_there c) (named_there c)
    (answers_as_members c.args.file.now c.args.p.now (names_there c) c.requires.states (named_there c) (table_there c) c.in_ok-file.file c.in_ok-file.ensures (closed_there c) (consistent_there c))
    alike
