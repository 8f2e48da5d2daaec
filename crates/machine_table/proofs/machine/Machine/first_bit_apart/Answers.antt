use Rattle.std.proofs.Common.{ℕ, IfSome, IfNone, true, subst, ◌<◌, sym}
use Rattle.state_pairs.specs.Pairs.{AgreeInBit, AtEachSymbol, IsFirstWithout}
use Rattle.state_pairs.specs.Laws.Labels.{each_from_none, first_not_so, if_none_given}
use Rattle.machine_table.proofs.OutputLabels.{bits_alike, bits_equal, given_everywhere, given_label, label_of_output, no_label, one_given, output_labels}
use Rattle.machine_table.proofs.machine.Machine.first_bit_apart.Goals as goal

pub returns-clause-some : goal.returns-clause-some
returns-clause-some c =
    let F = c.args.self.now in
    let table = c.keeps_its_states.ensures.table in
    let no_conflict = c.keeps_its_states.ensures.no_conflict in
    let b = c.new-question.result.b in
    let found = c.first_differing in
    subst (λ (n : ℕ). IfSome found.result (IsFirstWithout F.inputs (AgreeInBit n F c.args.s c.args.t))) c.new-question.ensures
    (first_not_so F table (given_label b) no_label (label_of_output b F) (output_labels F no_conflict b) c.args.s c.args.t (AgreeInBit b F c.args.s c.args.t) (bits_alike F b c.args.s c.args.t) (bits_equal F b c.args.s c.args.t) found.result found.ensures.within found.ensures.some found.ensures.met)

pub returns-clause-none : goal.returns-clause-none
returns-clause-none c =
    let F = c.args.self.now in
    let table = c.keeps_its_states.ensures.table in
    let no_conflict = c.keeps_its_states.ensures.no_conflict in
    let b = c.new-question.result.b in
    let found = c.first_differing in
    subst (λ (n : ℕ). IfNone found.result (AtEachSymbol F.inputs (AgreeInBit n F c.args.s c.args.t))) c.new-question.ensures
    (if_none_given (AtEachSymbol F.inputs (AgreeInBit c.new-question.result.b F c.args.s c.args.t)) found.result
    (each_from_none F table (given_label b) no_label (label_of_output b F) (output_labels F no_conflict b) c.args.s c.args.t (AgreeInBit b F c.args.s c.args.t) (bits_alike F b c.args.s c.args.t) (bits_equal F b c.args.s c.args.t) found.result found.ensures.within found.ensures.some true found.ensures.met))

pub first_differing-requires-clause-one : goal.first_differing-requires-clause-one
first_differing-requires-clause-one c =
    one_given c.args.self.now c.keeps_its_states.ensures.no_conflict c.new-question.result.b

pub first_differing-requires-clause-none_open : goal.first_differing-requires-clause-none_open
first_differing-requires-clause-none_open c =
    given_everywhere c.args.self.now c.new-question.result.b c.args.s c.args.t (subst (λ (n : ℕ). n < c.args.self.now.outputs) (sym c.new-question.ensures) c.requires.b) c.requires.s c.requires.t
