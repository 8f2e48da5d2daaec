use Rattle.std.proofs.Common.{◌+◌, ◌≤◌, length, sym, ◌∙◌, arith}
use Rattle.job_words.proofs.ItemsAt.{begins, items_bare, items_chosen, items_lacking, items_unnamed}
use Rattle.job_words.proofs.items.item_at.Goals as goal

pub returns-in-None-clause-item : goal.returns-in-None-clause-item
returns-in-None-clause-item c =
    items_unnamed c.args.words.now c.args.i c.word-word.result.now _ c.word-word.ensures (sym c.named_option.ensures ∙ c.in-None.is) (begins _ _ _ _ c.as_slice.ensures c.starts_with.ensures.value c.if-starts_with.true)

pub returns-in-None-2-clause-item : goal.returns-in-None-2-clause-item
returns-in-None-2-clause-item c =
    items_unnamed c.args.words.now c.args.i c.word-word.result.now _ c.word-word.ensures (sym c.named_option.ensures ∙ c.in-None-2.is) (begins _ _ _ _ c.as_slice.ensures c.starts_with.ensures.value c.if-starts_with.false)

pub returns-in-Some-clause-item : goal.returns-in-Some-clause-item
returns-in-Some-clause-item c =
    items_bare c.args.words.now c.args.i _ c.in-Some.option c.word-word.ensures (sym c.named_option.ensures ∙ c.in-Some.is) (sym c.takes_word.ensures ∙ c.if-not-takes_word.true)

pub returns-in-Some-2-clause-item : goal.returns-in-Some-2-clause-item
returns-in-Some-2-clause-item c =
    items_chosen c.args.words.now c.args.i _ _ c.in-Some.option c.word-word.ensures c.word.ensures (sym c.named_option.ensures ∙ c.in-Some.is) (sym c.takes_word.ensures ∙ c.if-not-takes_word.false)

pub returns-in-Some-3-clause-item : goal.returns-in-Some-3-clause-item
returns-in-Some-3-clause-item c =
    let last : length c.args.words.now ≤ c.args.i + 1 = omega arith in
    items_lacking c.args.words.now c.args.i _ c.in-Some.option c.word-word.ensures last (sym c.named_option.ensures ∙ c.in-Some.is) (sym c.takes_word.ensures ∙ c.if-not-takes_word.false)
