use Rattle.std.proofs.Common.{◌≡◌, ◌+◌, [], ◌∷◌, ◌++◌, take, Contains, append_assoc, sym, ◌∙◌, subst, ap, arith}
use Rattle.kiss_file.specs.Names.{AreDistinct}
use Rattle.std.proofs.lemmas.List.{take_all, take_more}
use Rattle.kiss2.specs.Laws.Finding.{contained_at, not_contained, once_from_distinct, twice_at}
use Rattle.kiss2.proofs.line_operands.add_new.Goals as goal

pub returns-then-is_some-clause-twice : goal.returns-then-is_some-clause-twice
returns-then-is_some-clause-twice c =
    let name = c.name-item.result in
    let again : Contains c.loop-name.seen c.bytes-name.result.now =
    contained_at c.loop-name.seen c.bytes-name.result.now c.number.result (sym c.is_some.ensures ∙ c.if-is_some.true) c.number.ensures.some in
    twice_at c.args.seen.now c.args.names.now c.loop-name.name-index name c.loop-name-test.true c.name-item.is
    (subst (λ ns. Contains ns name) c.loop-name.invariant.0 (subst (Contains c.loop-name.seen) c.bytes-name.ensures again))

pub returns-clause-twice : goal.returns-clause-twice
returns-clause-twice c =
    let all : take c.loop-name.name-index c.args.names.now ≡ c.args.names.now = take_all _ _ (omega arith) in
    once_from_distinct (c.args.seen.now ++ c.args.names.now) (subst AreDistinct (c.loop-name.invariant.0 ∙ ap (λ xs. c.args.seen.now ++ xs) all) c.loop-name.invariant.1)

pub returns-clause-all : goal.returns-clause-all
returns-clause-all c new =
    let all : take c.loop-name.name-index c.args.names.now ≡ c.args.names.now = take_all _ _ (omega arith) in
    c.loop-name.invariant.0 ∙ ap (λ xs. c.args.seen.now ++ xs) all

pub loop-name-preserved : goal.loop-name-preserved
loop-name-preserved c =
    let start = c.args.seen.now in
    let names = c.args.names.now in
    let i = c.loop-name.name-index in
    let item = c.name-item.result in
    let absent = not_contained c.loop-name.seen c.bytes-name.result.now c.number.result (sym c.is_some.ensures ∙ c.if-is_some.false) c.number.ensures.none in
    let more : take (i + 1) names ≡ take i names ++ item ∷ [] = take_more names i item c.loop-name-test.true ∙ ap (λ n. take i names ++ n ∷ []) (sym c.name-item.is) in (
      c.in_ok-add.ensures.last absent
          ∙ (ap (λ n. c.loop-name.seen ++ n ∷ []) c.bytes-name.ensures
          ∙ (ap (λ seen. seen ++ item ∷ []) c.loop-name.invariant.0 ∙ (append_assoc start (take i names) (item ∷ []) ∙ ap (λ xs. start ++ xs) (sym more)))),
      c.add.ensures.distinct,
    )
