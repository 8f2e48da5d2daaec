use Rattle.std.proofs.Common.{◌+◌, ◌∙◌, ℕ, Option, Some, None, IfSome, IfNone, subst, sym, arith}
use Rattle.std.proofs.lemmas.Bool.{true≢false}
use Rattle.least_codes.specs.Inner.Choice.{HasNone, IsFirstChoice}
use Rattle.least_codes.proofs.Choosing.{NoneHere, found_done, found_later, found_with, none_done, none_later, none_left, none_out, none_with}
use Rattle.least_codes.proofs.choice.+first_with.Goals as goal

pub returns-then-tells_apart-clause-some : goal.returns-then-tells_apart-clause-some
returns-then-tells_apart-clause-some t c =
    subst (λ (left : ℕ). IsFirstChoice c.args.question.now c.args.chosen c.args.from left c.args.chosen) (sym c.if-left-eq0.true)
    (found_done c.args.question.now c.args.chosen c.args.from (c.tells_apart.ensures.0 c.if-tells_apart.true))

pub returns-else-tells_apart-clause-none : goal.returns-else-tells_apart-clause-none
returns-else-tells_apart-clause-none t c =
    subst (λ (left : ℕ). HasNone c.args.question.now c.args.chosen c.args.from left) (sym c.if-left-eq0.true)
    (none_done c.args.question.now c.args.chosen c.args.from (λ tells. true≢false (sym (c.tells_apart.ensures.1 tells) ∙ c.if-tells_apart.false)))

pub returns-then-from-question-clause-none : goal.returns-then-from-question-clause-none
returns-then-from-question-clause-none t c =
    none_left c.args.question.now c.args.chosen c.args.from c.args.left (omega arith) c.if-from-question.true c.requires.below

-- facts of what is found, and of that nothing is
if_some : (o : Option ℕ) (P Q : ℕ → Type 0) → ((x : ℕ) → P x → Q x) → IfSome o P → IfSome o Q
if_some None P Q more is = tt
if_some (Some x) P Q more is = more x is

if_none : (o : Option ℕ) (P Q : Type 0) → (P → Q) → IfNone o P → IfNone o Q
if_none None P Q more is = more is
if_none (Some x) P Q more is = tt

pub returns-in-Some-clause-some : goal.returns-in-Some-clause-some
returns-in-Some-clause-some t c =
    found_with c.args.question.now c.args.chosen c.args.from c.args.left (omega arith) c.with_bit.result c.with_bit.ensures c.in-Some.set
    (c.has_bit.ensures.0 c.if-not-has_bit.false) c.in-Some.ensures.some

pub returns-in-None-clause-some : goal.returns-in-None-clause-some
returns-in-None-clause-some t c =
    let here : NoneHere c.args.question.now c.args.chosen c.args.from c.args.left (omega arith) = none_with c.args.question.now c.args.chosen c.args.from c.args.left (omega arith) c.with_bit.result c.with_bit.ensures c.in-None.ensures.none in
    if_some c.first_with-in-None.result (IsFirstChoice c.args.question.now c.args.chosen (c.args.from + 1) c.args.left) (IsFirstChoice c.args.question.now c.args.chosen c.args.from c.args.left)
    (λ set found. found_later c.args.question.now c.args.chosen c.args.from c.args.left (omega arith) set here found) c.first_with-in-None.ensures.some

pub returns-in-None-clause-none : goal.returns-in-None-clause-none
returns-in-None-clause-none t c =
    let here : NoneHere c.args.question.now c.args.chosen c.args.from c.args.left (omega arith) = none_with c.args.question.now c.args.chosen c.args.from c.args.left (omega arith) c.with_bit.result c.with_bit.ensures c.in-None.ensures.none in
    if_none c.first_with-in-None.result (HasNone c.args.question.now c.args.chosen (c.args.from + 1) c.args.left) (HasNone c.args.question.now c.args.chosen c.args.from c.args.left)
    (λ none. none_later c.args.question.now c.args.chosen c.args.from c.args.left (omega arith) here none) c.first_with-in-None.ensures.none

pub returns-then-not-has_bit-clause-some : goal.returns-then-not-has_bit-clause-some
returns-then-not-has_bit-clause-some t c =
    let here : NoneHere c.args.question.now c.args.chosen c.args.from c.args.left (omega arith) = none_out c.args.question.now c.args.chosen c.args.from c.args.left (omega arith) (λ is. true≢false (sym (c.has_bit.ensures.1 is) ∙ c.if-not-has_bit.true)) in
    if_some c.first_with.result (IsFirstChoice c.args.question.now c.args.chosen (c.args.from + 1) c.args.left) (IsFirstChoice c.args.question.now c.args.chosen c.args.from c.args.left)
    (λ set found. found_later c.args.question.now c.args.chosen c.args.from c.args.left (omega arith) set here found) c.first_with.ensures.some

pub returns-then-not-has_bit-clause-none : goal.returns-then-not-has_bit-clause-none
returns-then-not-has_bit-clause-none t c =
    let here : NoneHere c.args.question.now c.args.chosen c.args.from c.args.left (omega arith) = none_out c.args.question.now c.args.chosen c.args.from c.args.left (omega arith) (λ is. true≢false (sym (c.has_bit.ensures.1 is) ∙ c.if-not-has_bit.true)) in
    if_none c.first_with.result (HasNone c.args.question.now c.args.chosen (c.args.from + 1) c.args.left) (HasNone c.args.question.now c.args.chosen c.args.from c.args.left)
    (λ none. none_later c.args.question.now c.args.chosen c.args.from c.args.left (omega arith) here none) c.first_with.ensures.none
