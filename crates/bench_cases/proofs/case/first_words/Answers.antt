use Rattle.std.proofs.Common.{◌<◌, ℕ, length, ap, sym, subst, lit<}
use Rattle.std.proofs.lemmas.Iterator.Splits.{YieldsList-from_str_split}
use Rattle.bench_cases.proofs.Words.{one_more, no_more, none_came}
use Rattle.bench_cases.proofs.case.first_words.Goals as goal

pub returns-in_err-next-2 : goal.returns-in_err-next-2
returns-in_err-next-2 c =
    let none = none_came (YieldsList-from_str_split {s = c.split-words.result} 32 c.args.line.now (lit< tt) c.split-words.ensures.text c.split-words.ensures.has_more c.split-words.ensures.pattern) in
    let one = one_more none c.in_ok-next.was c.next.ensures.steps in
    let all = no_more one c.in_err-next-2.was c.next-2.ensures.steps in
    rw (c.from_residual-in_err-next-2.ensures) (subst (λ (n : ℕ). n < 5) (sym (ap length all)) (lit< tt))

pub returns-in_err-next-3 : goal.returns-in_err-next-3
returns-in_err-next-3 c =
    let none = none_came (YieldsList-from_str_split {s = c.split-words.result} 32 c.args.line.now (lit< tt) c.split-words.ensures.text c.split-words.ensures.has_more c.split-words.ensures.pattern) in
    let one = one_more none c.in_ok-next.was c.next.ensures.steps in
    let two = one_more one c.in_ok-next-2.was c.next-2.ensures.steps in
    let all = no_more two c.in_err-next-3.was c.next-3.ensures.steps in
    rw (c.from_residual-in_err-next-3.ensures) (subst (λ (n : ℕ). n < 5) (sym (ap length all)) (lit< tt))

pub returns-in_err-next-4 : goal.returns-in_err-next-4
returns-in_err-next-4 c =
    let none = none_came (YieldsList-from_str_split {s = c.split-words.result} 32 c.args.line.now (lit< tt) c.split-words.ensures.text c.split-words.ensures.has_more c.split-words.ensures.pattern) in
    let one = one_more none c.in_ok-next.was c.next.ensures.steps in
    let two = one_more one c.in_ok-next-2.was c.next-2.ensures.steps in
    let three = one_more two c.in_ok-next-3.was c.next-3.ensures.steps in
    let all = no_more three c.in_err-next-4.was c.next-4.ensures.steps in
    rw (c.from_residual-in_err-next-4.ensures) (subst (λ (n : ℕ). n < 5) (sym (ap length all)) (lit< tt))

pub returns-in_err-next-5 : goal.returns-in_err-next-5
returns-in_err-next-5 c =
    let none = none_came (YieldsList-from_str_split {s = c.split-words.result} 32 c.args.line.now (lit< tt) c.split-words.ensures.text c.split-words.ensures.has_more c.split-words.ensures.pattern) in
    let one = one_more none c.in_ok-next.was c.next.ensures.steps in
    let two = one_more one c.in_ok-next-2.was c.next-2.ensures.steps in
    let three = one_more two c.in_ok-next-3.was c.next-3.ensures.steps in
    let four = one_more three c.in_ok-next-4.was c.next-4.ensures.steps in
    let all = no_more four c.in_err-next-5.was c.next-5.ensures.steps in
    rw (c.from_residual-in_err-next-5.ensures) (subst (λ (n : ℕ). n < 5) (sym (ap length all)) (lit< tt))

pub returns : goal.returns
returns c =
    let none = none_came (YieldsList-from_str_split {s = c.split-words.result} 32 c.args.line.now (lit< tt) c.split-words.ensures.text c.split-words.ensures.has_more c.split-words.ensures.pattern) in
    let one = one_more none c.in_ok-next.was c.next.ensures.steps in
    let two = one_more one c.in_ok-next-2.was c.next-2.ensures.steps in
    let three = one_more two c.in_ok-next-3.was c.next-3.ensures.steps in
    let four = one_more three c.in_ok-next-4.was c.next-4.ensures.steps in
    let five = one_more four c.in_ok-next-5.was c.next-5.ensures.steps in
    (five.rest, five.parts)
