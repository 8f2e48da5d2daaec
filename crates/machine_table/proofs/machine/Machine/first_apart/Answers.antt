use Rattle.std.proofs.Common.{ℕ, ◌≡◌, true, slice_index}
use Rattle.partition.specs.Partition.{Together}
use Rattle.state_pairs.specs.Pairs.{AtEachSymbol, GoInto}
use Rattle.state_pairs.specs.Laws.Labels.{each_from_none, first_not_so, if_none_given}
use Rattle.state_pairs.specs.Laws.NextLabels.{label_of_next, named, named_everywhere, next_labels, one_named, together_in}
use Rattle.machine_table.proofs.machine.Machine.first_apart.Goals as goal

pub returns-clause-some : goal.returns-clause-some
returns-clause-some c =
    let F = c.args.self.now in
    let q = c.args.q.now in
    let table = c.keeps_its_states.ensures.table in
    let no_conflict = c.keeps_its_states.ensures.no_conflict in
    let alike = (λ (x : ℕ) (same : label_of_next (slice_index q) F c.args.s x ≡ label_of_next (slice_index q) F c.args.t x).
    together_in F table no_conflict q c.args.s c.args.t c.requires.s c.requires.t c.requires.states x same) in
    let equal = (λ (x : ℕ) (goes : GoInto (Together q) F c.args.s c.args.t x). goes.2) in
    first_not_so F table (named (slice_index q)) (slice_index q) (label_of_next (slice_index q) F) (next_labels F no_conflict (slice_index q)) c.args.s c.args.t (GoInto (Together q) F c.args.s c.args.t) alike equal c.first_differing.result c.first_differing.ensures.within c.first_differing.ensures.some c.first_differing.ensures.met

pub returns-clause-none : goal.returns-clause-none
returns-clause-none c =
    let F = c.args.self.now in
    let q = c.args.q.now in
    let table = c.keeps_its_states.ensures.table in
    let no_conflict = c.keeps_its_states.ensures.no_conflict in
    let alike = (λ (x : ℕ) (same : label_of_next (slice_index q) F c.args.s x ≡ label_of_next (slice_index q) F c.args.t x).
    together_in F table no_conflict q c.args.s c.args.t c.requires.s c.requires.t c.requires.states x same) in
    let equal = (λ (x : ℕ) (goes : GoInto (Together q) F c.args.s c.args.t x). goes.2) in
    if_none_given (AtEachSymbol F.inputs (GoInto (Together q) F c.args.s c.args.t)) c.first_differing.result
    (each_from_none F table (named (slice_index q)) (slice_index q) (label_of_next (slice_index q) F) (next_labels F no_conflict (slice_index q)) c.args.s c.args.t (GoInto (Together q) F c.args.s c.args.t) alike equal c.first_differing.result c.first_differing.ensures.within c.first_differing.ensures.some true c.first_differing.ensures.met)

pub first_differing-requires-clause-one : goal.first_differing-requires-clause-one
first_differing-requires-clause-one c =
    one_named c.args.self.now c.keeps_its_states.ensures.no_conflict (slice_index c.args.q.now)

pub first_differing-requires-clause-none_open : goal.first_differing-requires-clause-none_open
first_differing-requires-clause-none_open c = named_everywhere c.args.self.now (slice_index c.args.q.now) c.args.s c.args.t c.requires.s c.requires.t
