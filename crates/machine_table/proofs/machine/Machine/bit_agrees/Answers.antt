use Rattle.std.proofs.Common.{ℕ, ◌↔◌, ◌∙◌, IsTrue, ap, false, not, subst, sym, ◌<◌}
use Rattle.state_pairs.specs.Pairs.{AgreeInBit, AtEachSymbol}
use Rattle.state_pairs.specs.Laws.Labels.{each_from_none, none_from_each, true_from_not}
use Rattle.machine_table.proofs.OutputLabels.{bits_alike, bits_equal, given_everywhere, given_label, label_of_output, no_label, one_given, output_labels}
use Rattle.machine_table.proofs.machine.Machine.bit_agrees.Goals as goal

pub returns : goal.returns
returns c =
    let F = c.args.self.now in
    let table = c.keeps_its_states.ensures.table in
    let no_conflict = c.keeps_its_states.ensures.no_conflict in
    let b = c.new-question.result.b in
    let found = c.first_differing in
    let both : IsTrue c.is_none.result ↔ AtEachSymbol F.inputs (AgreeInBit c.new-question.result.b F c.args.s c.args.t) = (
      λ none. each_from_none F table (given_label b) no_label (label_of_output b F) (output_labels F no_conflict b) c.args.s c.args.t (AgreeInBit b F c.args.s c.args.t) (bits_alike F b c.args.s c.args.t) (bits_equal F b c.args.s c.args.t) found.result found.ensures.within found.ensures.some false found.ensures.met
          (c.is_none.ensures ∙ ap not none),
      λ agree. true_from_not c.is_none.result (sym c.is_none.ensures
          ∙ none_from_each F table (given_label b) no_label (label_of_output b F) (output_labels F no_conflict b) c.args.s c.args.t (AgreeInBit b F c.args.s c.args.t) (bits_alike F b c.args.s c.args.t) (bits_equal F b c.args.s c.args.t) found.result found.ensures.within found.ensures.some agree),
    ) in
    subst (λ (n : ℕ). IsTrue c.is_none.result ↔ AtEachSymbol F.inputs (AgreeInBit n F c.args.s c.args.t)) c.new-question.ensures both

pub first_differing-requires-clause-one : goal.first_differing-requires-clause-one
first_differing-requires-clause-one c =
    one_given c.args.self.now c.keeps_its_states.ensures.no_conflict c.new-question.result.b

pub first_differing-requires-clause-none_open : goal.first_differing-requires-clause-none_open
first_differing-requires-clause-none_open c =
    given_everywhere c.args.self.now c.new-question.result.b c.args.s c.args.t (subst (λ (n : ℕ). n < c.args.self.now.outputs) (sym c.new-question.ensures) c.requires.b) c.requires.s c.requires.t
