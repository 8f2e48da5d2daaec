use Rattle.std.proofs.Common.{◌≡◌, ◌<◌, ◌∙◌, ℕ, List, [], Some, length, get_or, ap, subst, arith}
use Rattle.std.proofs.lemmas.List.{get_or_default}
use Rattle.part_texts.proofs.LongNames.{first_among, none_among}
use Rattle.part_texts.proofs.part_names.long_among.Goals as goal

pub returns-then-bytes-gt-MOST_BYTES : goal.returns-then-bytes-gt-MOST_BYTES
returns-then-bytes-gt-MOST_BYTES c =
    let same : c.bytes-bytes.result.now ≡ get_or c.args.names.now c.loop-name.name-index [] =
    c.bytes-bytes.ensures ∙ c.name-item.is ∙ get_or_default c.args.names.now c.loop-name.name-index c.name-item.result [] c.loop-name-test.true in
    ap (λ (name : List ℕ). Some (length name)) same
    ∙ first_among c.args.names.now c.loop-name.name-index c.loop-name-test.true c.loop-name.invariant (subst (λ (name : List ℕ). 64 < length name) same c.if-bytes-gt-MOST_BYTES.true)

pub returns : goal.returns
returns c = none_among c.args.names.now (λ k within. c.loop-name.invariant k (omega (arith, within, c.loop-name-test.false)))
