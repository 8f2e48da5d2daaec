use Rattle.std.proofs.Common.{ℕ, ◌≡◌, ◌-◌, ◌^◌, ◌∙◌, ap, subst}
use Rattle.state_rows.specs.Least.{IsMetBy}
use Rattle.state_pairs.specs.Pairs.{AgreeAt}
use Rattle.state_pairs.specs.Laws.Labels.{each_from_none, first_not_so, none_from_each}
use Rattle.machine_table.proofs.OutputLabels.{no_label}
use Rattle.machine_table.proofs.WordLabels.{one_word_said, word_at, word_label, word_labels, word_not_open, words_alike, words_equal}
use Rattle.machine_table.proofs.machine.Machine.first_word_apart.Goals as goal

pub returns-clause-least : goal.returns-clause-least
returns-clause-least c asked =
    let F = c.args.self.now in
    let table = c.keeps_its_states.ensures.table in
    let no_conflict = c.keeps_its_states.ensures.no_conflict in
    let whole : c.new-question.result.all ≡ 2 ^ F.outputs - 1 = c.new-question.ensures ∙ c.all_outputs-all.ensures ∙ ap (λ (n : ℕ). 2 ^ n - 1) c.outputs.ensures.count in
    let all = c.new-question.result.all in
    let found = c.first_differing in
    first_not_so F table (word_label all) no_label (word_at F table no_conflict all whole) (word_labels F table no_conflict all whole) c.args.s c.args.t (AgreeAt F c.args.s c.args.t)
    (words_alike F table no_conflict all whole c.args.s c.args.t c.requires.first c.requires.second) (words_equal F table no_conflict all whole c.args.s c.args.t c.requires.first c.requires.second)
    found.result found.ensures.within found.ensures.some
    (λ y differ. subst (λ least. IsMetBy found.result least y) asked (found.ensures.met y differ))

pub returns-clause-none : goal.returns-clause-none
returns-clause-none c =
    let F = c.args.self.now in
    let table = c.keeps_its_states.ensures.table in
    let no_conflict = c.keeps_its_states.ensures.no_conflict in
    let whole : c.new-question.result.all ≡ 2 ^ F.outputs - 1 = c.new-question.ensures ∙ c.all_outputs-all.ensures ∙ ap (λ (n : ℕ). 2 ^ n - 1) c.outputs.ensures.count in
    let all = c.new-question.result.all in
    let found = c.first_differing in
    let alike = words_alike F table no_conflict all whole c.args.s c.args.t c.requires.first c.requires.second in
    let equal = words_equal F table no_conflict all whole c.args.s c.args.t c.requires.first c.requires.second in (
      each_from_none F table (word_label all) no_label (word_at F table no_conflict all whole) (word_labels F table no_conflict all whole) c.args.s c.args.t (AgreeAt F c.args.s c.args.t) alike equal found.result found.ensures.within found.ensures.some c.args.least found.ensures.met,
      none_from_each F table (word_label all) no_label (word_at F table no_conflict all whole) (word_labels F table no_conflict all whole) c.args.s c.args.t (AgreeAt F c.args.s c.args.t) alike equal found.result found.ensures.within found.ensures.some,
    )

pub first_differing-requires-clause-one : goal.first_differing-requires-clause-one
first_differing-requires-clause-one c =
    let F = c.args.self.now in
    one_word_said F c.keeps_its_states.ensures.table c.keeps_its_states.ensures.no_conflict c.new-question.result.all
    (c.new-question.ensures ∙ c.all_outputs-all.ensures ∙ ap (λ (n : ℕ). 2 ^ n - 1) c.outputs.ensures.count)

pub first_differing-requires-clause-none_open : goal.first_differing-requires-clause-none_open
first_differing-requires-clause-none_open c specified x =
    let F = c.args.self.now in
    let table = c.keeps_its_states.ensures.table in
    let no_conflict = c.keeps_its_states.ensures.no_conflict in
    let whole : c.new-question.result.all ≡ 2 ^ F.outputs - 1 = c.new-question.ensures ∙ c.all_outputs-all.ensures ∙ ap (λ (n : ℕ). 2 ^ n - 1) c.outputs.ensures.count in (
      word_not_open F table no_conflict c.new-question.result.all whole c.args.s c.requires.first specified c.requires.s x,
      word_not_open F table no_conflict c.new-question.result.all whole c.args.t c.requires.second specified c.requires.t x,
    )
