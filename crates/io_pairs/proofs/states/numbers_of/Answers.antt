use Rattle.std.proofs.Common.{◌≡◌, ◌∙◌, ℕ, List, get_or, subst, arith}
use Rattle.io_pairs.specs.Inner.Words.{IsPlaceOf}
use Rattle.io_pairs.specs.Outputs.{outputs_at}
use Rattle.io_pairs.proofs.Gathering.{numbers_all, numbers_more}
use Rattle.io_pairs.proofs.states.numbers_of.Goals as goal

pub loop-word-preserved : goal.loop-word-preserved
loop-word-preserved c =
    let F = c.args.m.now in
    let words = c.as_slice-word-items.result.now in
    let i = c.loop-word.word-index in
    let row : words ≡ outputs_at F c.args.s = c.as_slice-word-items.ensures.value ∙ c.in_ok-words.ensures in
    let place : IsPlaceOf c.args.outs.now (get_or words i 0) c.place_of.result = subst (λ (xs : List ℕ). IsPlaceOf xs (get_or words i 0) c.place_of.result) c.as_slice.ensures c.place_of.ensures in
    rw c.in_ok-push.ensures.items
    (numbers_more F c.args.s c.args.outs.now words i c.place_of.result c.loop-word.numbers.items c.requires.outs.same c.requires.s row c.loop-word-test.true place c.loop-word.invariant)

pub returns : goal.returns
returns c =
    let F = c.args.m.now in
    let words = c.as_slice-word-items.result.now in
    let row : words ≡ outputs_at F c.args.s = c.as_slice-word-items.ensures.value ∙ c.in_ok-words.ensures in
    numbers_all F c.args.s words c.loop-word.word-index c.loop-word.numbers.items row (omega arith) c.loop-word.invariant
