use Rattle.std.proofs.Common.{◌≡◌, Ok, sym, ◌∙◌, subst, arith}
use Rattle.std.proofs.lemmas.Bool.{false≢true}
use Rattle.partition.specs.Numerals.{IsPlain}
use Rattle.partition.specs.Laws.Numerals.{IsPlain-decimal, decimal-of_plain, reads-decimal, IsUtf8-decimal}
use Rattle.cover_split.proofs.text.state_of.Goals as goal

pub returns-then-not-is_plain-clause-none : goal.returns-then-not-is_plain-clause-none
returns-then-not-is_plain-clause-none c state low among is =
    let plain : IsPlain c.args.piece.now = subst IsPlain (sym is) (IsPlain-decimal state (omega arith)) in
    false≢true (sym c.if-not-is_plain.true ∙ c.is_plain.ensures.1 plain)

pub returns-in_default-clause-none : goal.returns-in_default-clause-none
returns-in_default-clause-none c state low among is = c.in_default.ensures.cases.0 (IsUtf8-decimal c.args.piece.now state (omega arith) is)

pub returns-in-Ok-parse-clause-some : goal.returns-in-Ok-parse-clause-some
returns-in-Ok-parse-clause-some c =
    let same = c.in-Ok.ensures.cases.0 in
    let plain : IsPlain c.in-Ok.text.now = subst IsPlain (sym same) (c.is_plain.ensures.0 c.if-not-is_plain.false) in
    (c.if-low-state.true, c.if-state-n.true, sym same ∙ decimal-of_plain c.in-Ok.text.now c.parse.result c.in-Ok-parse.state c.parse.ensures.value.0 plain c.in-Ok-parse.is)

pub returns-in_default-parse-clause-none : goal.returns-in_default-parse-clause-none
returns-in_default-parse-clause-none c state low among is =
    let read : c.parse.result ≡ Ok state = reads-decimal c.in-Ok.text.now c.parse.result state (omega arith) c.parse.ensures.value.0 (c.in-Ok.ensures.cases.0 ∙ is) in
    let same : c.in-Ok-parse.state ≡ state = cc (c.in-Ok-parse.is) in
    absurd (omega arith)

pub returns-in_default-parse-2-clause-none : goal.returns-in_default-parse-2-clause-none
returns-in_default-parse-2-clause-none c state low among is =
    let read : c.parse.result ≡ Ok state = reads-decimal c.in-Ok.text.now c.parse.result state (omega arith) c.parse.ensures.value.0 (c.in-Ok.ensures.cases.0 ∙ is) in
    let same : c.in-Ok-parse.state ≡ state = cc (c.in-Ok-parse.is) in
    absurd (omega arith)

pub returns-in_default-parse-3-clause-none : goal.returns-in_default-parse-3-clause-none
returns-in_default-parse-3-clause-none c state low among is =
    let read : c.parse.result ≡ Ok state = reads-decimal c.in-Ok.text.now c.parse.result state (omega arith) c.parse.ensures.value.0 (c.in-Ok.ensures.cases.0 ∙ is) in
    cc (c.in_default-parse.is)
