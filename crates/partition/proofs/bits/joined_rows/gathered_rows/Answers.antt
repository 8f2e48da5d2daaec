use Rattle.std.proofs.Common.{◌≡◌, ◌≢◌, ◌*◌, ◌/◌, ◌≤◌, ◌⊎◌, ℕ, List, length, get_or, sym, subst, ◌∙◌, arith}
use Rattle.std.proofs.lemmas.List.{with_items_is}
use Rattle.std.proofs.lemmas.Grind.{common_steps}
use Rattle.partition.specs.Partition.{Together}
use Rattle.partition.specs.Bits.{bit_of}
use Rattle.partition.specs.Inner.Rows.{AreRowsOf, words_for}
use Rattle.partition.specs.Inner.JoinedRows.{AreWithin, IsInRow, HaveNumbers}
use Rattle.partition.proofs.BlockRows.{all_rows}
use Rattle.partition.proofs.Words.{no_bits}
use Rattle.partition.specs.Laws.Labels.{label-le}
use Rattle.partition.proofs.Gathering.{no_row_numbers, gathered_are_rows}
use Rattle.partition.proofs.bits.joined_rows.gathered_rows.Goals as goal

pub number_labels-some-requires-clause-labels : goal.number_labels-some-requires-clause-labels
number_labels-some-requires-clause-labels c s within = omega (arith, label-le c.args.labels.now c.requires.lawful.numbered s within, c.requires.lawful.count.1, within)

pub number_labels-some-requires-clause-numbered : goal.number_labels-some-requires-clause-numbered
number_labels-some-requires-clause-numbered c = no_row_numbers c.args.labels.now 256

pub number_labels-count-requires-clause-labels : goal.number_labels-count-requires-clause-labels
number_labels-count-requires-clause-labels c s within = omega (arith, label-le c.args.labels.now c.requires.lawful.numbered s within, c.requires.lawful.count.1, within)

pub gather-requires-clause-labels : goal.gather-requires-clause-labels
gather-requires-clause-labels c s within = omega (arith, label-le c.args.labels.now c.requires.lawful.numbered s within, c.requires.lawful.count.1, within)

pub gather-requires-2-clause-labels : goal.gather-requires-2-clause-labels
gather-requires-2-clause-labels c s within = omega (arith, label-le c.args.labels.now c.requires.lawful.numbered s within, c.requires.lawful.count.1, within)

pub number_labels-some-requires-clause-rows : goal.number_labels-some-requires-clause-rows
number_labels-some-requires-clause-rows c = subst (λ (w : ℕ). AreWithin c.args.labels.now c.args.front.now w (length c.args.front.now / w)) (sym c.word_count-width.ensures.count) c.requires.front

pub number_labels-count-requires-clause-rows : goal.number_labels-count-requires-clause-rows
number_labels-count-requires-clause-rows c = subst (λ (w : ℕ). AreWithin c.args.labels.now c.args.back.now w (length c.args.back.now / w)) (sym c.word_count-width.ensures.count) c.requires.back

pub number_labels-count-requires-clause-numbered : goal.number_labels-count-requires-clause-numbered
number_labels-count-requires-clause-numbered c = c.number_labels-some.ensures.numbered

pub gather-requires-clause-rows : goal.gather-requires-clause-rows
gather-requires-clause-rows c = subst (λ (w : ℕ). AreWithin c.args.labels.now c.args.front.now w (length c.args.front.now / w)) (sym c.word_count-width.ensures.count) c.requires.front

pub gather-requires-2-clause-rows : goal.gather-requires-2-clause-rows
gather-requires-2-clause-rows c = subst (λ (w : ℕ). AreWithin c.args.labels.now c.args.back.now w (length c.args.back.now / w)) (sym c.word_count-width.ensures.count) c.requires.back

pub gather-requires-clause-numbered : goal.gather-requires-clause-numbered
gather-requires-clause-numbered c i s within inside on = c.number_labels-count.ensures.kept (get_or c.args.labels.now s 0) (c.number_labels-some.ensures.all i s within inside on)

pub gather-requires-2-clause-numbered : goal.gather-requires-2-clause-numbered
gather-requires-2-clause-numbered c = c.number_labels-count.ensures.all

pub returns : goal.returns
returns c =
    let p : List ℕ = c.args.labels.now in
    let front : List ℕ = c.args.front.now in
    let back : List ℕ = c.args.back.now in
    let numbers : List ℕ = c.number_labels-count.new.numbers in
    let count : ℕ = c.number_labels-count.result in
    let zeros : List ℕ = c.as_mut_slice-into.result.now in
    let half : List ℕ = c.gather.new.into in
    let new : List ℕ = c.gather-2.new.into in
    let width : ℕ = c.word_count-width.result in
    let kept : length new ≡ length zeros = c.gather-2.ensures.length ∙ c.gather.ensures.length in
    let size : length new ≡ count * width = kept ∙ c.as_mut_slice-into.ensures.len ∙ c.in_ok-rows.ensures.len in
    let wide : length p ≤ 64 * width = omega (arith, c.word_count-width.ensures.count) in
    let none : (k : ℕ) → bit_of zeros k ≡ 0 = no_bits zeros (λ j within. grind (arith, common_steps)) in
    let is : words_for (length p) ≡ width = sym c.word_count-width.ensures.count in
    let in_front : AreWithin p front width (length front / width) = subst (λ (w : ℕ). AreWithin p front w (length front / w)) is c.requires.front in
    let in_back : AreWithin p back width (length back / width) = subst (λ (w : ℕ). AreWithin p back w (length back / w)) is c.requires.back in
    let all = subst (λ (w : ℕ). (s t : ℕ) → Together p s t → s ≢ t → IsInRow front w (length front / w) s ⊎ IsInRow back w (length back / w) s) is c.requires.all in
    let front_numbered : HaveNumbers p front width (length front / width) numbers = λ i s within inside on. c.number_labels-count.ensures.kept (get_or p s 0) (c.number_labels-some.ensures.all i s within inside on) in
    subst (AreRowsOf p) (sym (with_items_is c.in_ok-rows.rows new (kept ∙ c.as_mut_slice-into.ensures.len)))
    (all_rows p new width count
    (gathered_are_rows p front back numbers zeros half new width (length front / width) (length back / width) count size wide in_front in_back all c.number_labels-count.ensures.numbered front_numbered c.number_labels-count.ensures.all none c.gather.ensures.bits c.gather-2.ensures.bits)
    c.word_count-width.ensures.count c.requires.lawful.count.0)
