use Rattle.std.proofs.Common.{ℕ, ◌≡◌, ◌<◌, ◌^◌, List, Some, get_or, slice_get, subst, arith}
use Rattle.state_pairs.proofs.NamedIn.{added_at_none, added_at_some, added_unmarked}
use Rattle.state_pairs.proofs.rows.RowsByState.add_marked.Goals.{After-row-row}
use Rattle.state_pairs.proofs.rows.RowsByState.add_marked.Goals as goal

at_row : (c : After-row-row) → slice_get c.args.self.now.rows (get_or c.args.bundle.now.numbers c.args.place 0) ≡ Some c.row-row.result.now
at_row c =
    subst (λ (list : List ℕ). slice_get c.args.self.now.rows (get_or list c.args.place 0) ≡ Some c.row-row.result.now) c.as_slice.ensures c.row-row.ensures.row

pub returns-in_default-clause-pairs : goal.returns-in_default-clause-pairs
returns-in_default-clause-pairs c =
    added_at_none c.args.self.now.rows c.args.bundle.now.numbers c.args.next c.args.place c.row-row.result.now (at_row (goal.at.returns-in_default-clause-pairs c).After-row-row) c.args.pairs.now.pairs c.in_default.is

pub returns-then-branch-clause-pairs : goal.returns-then-branch-clause-pairs
returns-then-branch-clause-pairs c =
    added_unmarked c.args.self.now.rows c.args.bundle.now.numbers c.args.next c.args.place c.row-row.result.now (at_row (goal.at.returns-then-branch-clause-pairs c).After-row-row) c.in-Some.other
    c.args.pairs.now.pairs c.add.new.self.pairs c.in-Some.is c.in_ok-add.ensures.pairs

pub returns-clause-pairs : goal.returns-clause-pairs
returns-clause-pairs c =
    let word = c.naming_no_other.result in
    let fits : word < 2 ^ 64 = omega arith in
    added_at_some c.args.self.now.rows c.args.bundle.now.numbers c.args.next c.args.place c.row-row.result.now (at_row (goal.at.returns-clause-pairs c).After-row-row) c.in-Some.other word
    c.args.pairs.now.pairs c.add.new.self.pairs c.in-Some.is fits c.in_ok-add.ensures.pairs
    (c.naming_no_other.ensures c.args.self.now.rows c.requires.bundle (c.args.self.now.inputs, c.requires.fit))
