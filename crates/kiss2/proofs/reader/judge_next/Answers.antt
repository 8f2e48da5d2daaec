use Rattle.std.proofs.Common.{◌≡◌, ◌∷◌, [], length, take, ap, sym, ◌∙◌, subst, arith}
use Rattle.std.proofs.lemmas.Result.{err_from_is_err_and}
use Rattle.hs_io.specs.Lines.{lines_of}
use Rattle.kiss2.specs.Inner.ReaderPlace.{HasCome}
use Rattle.kiss2.proofs.Ending.{all_read, ended_here, fault_here, goes_on, short_here}
use Rattle.kiss2.proofs.reader.judge_next.Goals as goal

pub returns-in_default-clause-done : goal.returns-in_default-clause-done
returns-in_default-clause-done c last bytes count come =
    let none : c.args.reader.now ≡ [] = rw c.in_default.is at c.in_ok-line.ensures.none in
    all_read bytes c.args.kept.now.said c.args.kept.now.rows.items count (subst (λ left. HasCome (lines_of bytes) c.args.kept.now.said c.args.kept.now.rows.items left count) none come)

pub returns-then-ends-clause-done : goal.returns-then-ends-clause-done
returns-then-ends-clause-done c last bytes count come =
    let first : c.args.reader.now ≡ c.in-Some.line ∷ c.next_line.new.self = rw c.in-Some.is at c.in_ok-line.ensures.some in
    let here = subst (λ left. HasCome (lines_of bytes) c.args.kept.now.said c.args.kept.now.rows.items left count) first come in
    ended_here bytes c.args.kept.now.said c.args.kept.now.rows.items c.in-Some.line c.next_line.new.self count here (sym c.ends.ensures ∙ c.if-ends.true)

pub take_line-requires-clause-short : goal.take_line-requires-clause-short
take_line-requires-clause-short c =
    let bytes = c.requires.0 in
    let count = c.requires.1 in
    let first : c.args.reader.now ≡ c.in-Some.line ∷ c.next_line.new.self = rw c.in-Some.is at c.in_ok-line.ensures.some in
    let here = subst (λ left. HasCome (lines_of bytes) c.args.kept.now.said c.args.kept.now.rows.items left count) first c.requires.3 in
    short_here bytes c.args.kept.now.said c.args.kept.now.rows.items c.in-Some.line c.next_line.new.self count here c.requires.2

pub returns-in-Ok-clause-shorter : goal.returns-in-Ok-clause-shorter
returns-in-Ok-clause-shorter c more =
    let first : c.args.reader.now ≡ c.in-Some.line ∷ c.next_line.new.self = rw c.in-Some.is at c.in_ok-line.ensures.some in
    omega (arith, ap length first)

pub returns-in-Ok-clause-goes_on : goal.returns-in-Ok-clause-goes_on
returns-in-Ok-clause-goes_on c more bytes count come =
    let first : c.args.reader.now ≡ c.in-Some.line ∷ c.next_line.new.self = rw c.in-Some.is at c.in_ok-line.ensures.some in
    let here = subst (λ left. HasCome (lines_of bytes) c.args.kept.now.said c.args.kept.now.rows.items left count) first come in
    goes_on bytes c.args.kept.now.said c.args.kept.now.rows.items c.in-Some.line c.next_line.new.self count here c.take_line.new.self.said c.take_line.new.self.rows.items (sym c.ends.ensures ∙ c.if-ends.false)
    (c.in-Ok.ensures.judged (take count (lines_of bytes)) here.keeps).1

pub returns-in-Err-clause-refused : goal.returns-in-Err-clause-refused
returns-in-Err-clause-refused c fault same bytes count come =
    let first : c.args.reader.now ≡ c.in-Some.line ∷ c.next_line.new.self = rw c.in-Some.is at c.in_ok-line.ensures.some in
    let here = subst (λ left. HasCome (lines_of bytes) c.args.kept.now.said c.args.kept.now.rows.items left count) first come in
    fault_here bytes c.args.kept.now.said c.args.kept.now.rows.items c.in-Some.line c.next_line.new.self count here c.in-Err.fail fault (sym c.ends.ensures ∙ c.if-ends.false)
    (c.in-Err.ensures.judged (take count (lines_of bytes)) here.keeps) (sym c.fail_of.ensures ∙ cc)

pub returns-in_err-line-clause-shorter : goal.returns-in_err-line-clause-shorter
returns-in_err-line-clause-shorter c = let p = err_from_is_err_and c.from_residual.result c.from_residual.ensures.1 in rw p.1 tt

pub returns-in_err-line-clause-goes_on : goal.returns-in_err-line-clause-goes_on
returns-in_err-line-clause-goes_on c = let p = err_from_is_err_and c.from_residual.result c.from_residual.ensures.1 in rw p.1 tt

pub returns-in_err-line-clause-done : goal.returns-in_err-line-clause-done
returns-in_err-line-clause-done c = let p = err_from_is_err_and c.from_residual.result c.from_residual.ensures.1 in rw p.1 tt

pub returns-in_err-line-clause-refused : goal.returns-in_err-line-clause-refused
returns-in_err-line-clause-refused c fault same =
    let p = err_from_is_err_and c.from_residual.result c.from_residual.ensures.1 in
    absurd (cc (same, p.1, p.2))
