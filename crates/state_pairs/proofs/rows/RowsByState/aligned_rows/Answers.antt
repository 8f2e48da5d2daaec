use Rattle.std.proofs.Common.{ℕ, List, ◌∙◌, ap, subst}
use Rattle.kiss_file.specs.declared.file.KissFile.{KissFile}
use Rattle.kiss_file.specs.Machine.{Conflicting}
use Rattle.state_rows.specs.Places.{places_of}
use Rattle.state_pairs.proofs.Alignment.{all_of_two, columns_of_two, inside_of_own}
use Rattle.state_pairs.proofs.rows.RowsByState.aligned_rows.Goals as goal

pub returns-then-index-clause-no_conflict : goal.returns-then-index-clause-no_conflict
returns-then-index-clause-no_conflict g c = subst (λ (F : KissFile). Conflicting F → ⊥) c.self.view_is c.self.invariant.1

pub returns-then-not-search-clause-no_conflict : goal.returns-then-not-search-clause-no_conflict
returns-then-not-search-clause-no_conflict g c = subst (λ (F : KissFile). Conflicting F → ⊥) c.self.view_is c.self.invariant.1

pub returns-then-not-search-clause-aligned : goal.returns-then-not-search-clause-aligned
returns-then-not-search-clause-aligned g c =
    let m = c.self.inside in
    columns_of_two c.args.self.now m.file c.self.view_is m.places.items m.columns.items m.leaders.items c.self.invariant.2 c.self.invariant.3
    c.args.search.now.s c.args.search.now.t c.index.result.now c.index-2.result.now c.requires.s c.requires.t c.index.ensures c.index-2.ensures c.if-index.false
    (g.Q.Question.said c.args.search.now.question.now) c.lists_of_two.result.first.now c.lists_of_two.result.second.now
    (c.lists_of_two.ensures.first ∙ ap (λ (lists : List (List ℕ)). places_of lists c.args.search.now.s) c.deref.ensures.value)
    (c.lists_of_two.ensures.second ∙ ap (λ (lists : List (List ℕ)). places_of lists c.args.search.now.t) c.deref.ensures.value)
    (c.is_of_next.ensures c.if-is_of_next.true) c.args.search.now.least c.if-not-search.true

pub returns-then-not-search-clause-first : goal.returns-then-not-search-clause-first
returns-then-not-search-clause-first g c =
    inside_of_own c.args.self.now c.args.search.now.s c.lists_of_two.result.first.now (returns-then-not-search-clause-aligned g c).own_first

pub returns-then-not-search-clause-second : goal.returns-then-not-search-clause-second
returns-then-not-search-clause-second g c =
    inside_of_own c.args.self.now c.args.search.now.t c.lists_of_two.result.second.now (returns-then-not-search-clause-aligned g c).own_second

pub returns-then-not-search-clause-count : goal.returns-then-not-search-clause-count
returns-then-not-search-clause-count g c = (returns-then-not-search-clause-aligned g c).count

pub returns-clause-aligned : goal.returns-clause-aligned
returns-clause-aligned g c =
    let m = c.self.inside in
    all_of_two c.args.self.now m.file c.self.view_is m.places.items m.columns.items m.leaders.items c.self.invariant.2 c.self.invariant.3
    c.args.search.now.s c.args.search.now.t c.index.result.now c.index-2.result.now c.requires.s c.requires.t c.index.ensures c.index-2.ensures c.if-index.false
    (g.Q.Question.said c.args.search.now.question.now) c.lists_of_two-2.result.first.now c.lists_of_two-2.result.second.now
    (c.lists_of_two-2.ensures.first ∙ ap (λ (lists : List (List ℕ)). places_of lists c.args.search.now.s) c.deref-2.ensures.value)
    (c.lists_of_two-2.ensures.second ∙ ap (λ (lists : List (List ℕ)). places_of lists c.args.search.now.t) c.deref-2.ensures.value) c.args.search.now.least

pub returns-clause-first : goal.returns-clause-first
returns-clause-first g c = inside_of_own c.args.self.now c.args.search.now.s c.lists_of_two-2.result.first.now (returns-clause-aligned g c).own_first

pub returns-clause-second : goal.returns-clause-second
returns-clause-second g c = inside_of_own c.args.self.now c.args.search.now.t c.lists_of_two-2.result.second.now (returns-clause-aligned g c).own_second

pub returns-clause-no_conflict : goal.returns-clause-no_conflict
returns-clause-no_conflict g c = subst (λ (F : KissFile). Conflicting F → ⊥) c.self.view_is c.self.invariant.1
