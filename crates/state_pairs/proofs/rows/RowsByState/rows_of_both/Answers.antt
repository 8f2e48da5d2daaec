use Rattle.std.proofs.Common.{ℕ, List, ◌∙◌, ap, subst}
use Rattle.kiss_file.specs.declared.file.KissFile.{KissFile}
use Rattle.kiss_file.specs.declared.file.KissRow.{KissRow}
use Rattle.kiss_file.specs.Machine.{Conflicting}
use Rattle.state_rows.specs.Places.{places_of}
use Rattle.state_pairs.proofs.Alignment.{held_of_two, inside_of_own}
use Rattle.state_pairs.proofs.rows.RowsByState.rows_of_both.Goals as goal

pub returns-then-index-clause-no_conflict : goal.returns-then-index-clause-no_conflict
returns-then-index-clause-no_conflict c = subst (λ (F : KissFile). Conflicting F → ⊥) c.self.view_is c.self.invariant.1

pub returns-clause-all : goal.returns-clause-all
returns-clause-all c =
    let m = c.self.inside in
    held_of_two c.args.self.now m.file c.self.view_is m.places.items m.columns.items m.leaders.items c.self.invariant.2 c.self.invariant.3
    c.args.s c.args.t c.index.result.now c.index-2.result.now c.requires.s c.requires.t c.index.ensures c.index-2.ensures c.if-index.false
    (λ (row : KissRow). row.to) c.lists_of_two.result.first.now c.lists_of_two.result.second.now
    (c.lists_of_two.ensures.first ∙ ap (λ (lists : List (List ℕ)). places_of lists c.args.s) c.deref.ensures.value)
    (c.lists_of_two.ensures.second ∙ ap (λ (lists : List (List ℕ)). places_of lists c.args.t) c.deref.ensures.value)

pub returns-clause-first : goal.returns-clause-first
returns-clause-first c = inside_of_own c.args.self.now c.args.s c.lists_of_two.result.first.now (returns-clause-all c).own_first

pub returns-clause-second : goal.returns-clause-second
returns-clause-second c = inside_of_own c.args.self.now c.args.t c.lists_of_two.result.second.now (returns-clause-all c).own_second

pub returns-clause-count : goal.returns-clause-count
returns-clause-count c = (returns-clause-all c).cubes.count

pub returns-clause-no_conflict : goal.returns-clause-no_conflict
returns-clause-no_conflict c = subst (λ (F : KissFile). Conflicting F → ⊥) c.self.view_is c.self.invariant.1
