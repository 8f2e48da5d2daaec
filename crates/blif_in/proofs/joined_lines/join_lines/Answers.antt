use Rattle.std.proofs.Common.{[], ◌≡◌, ◌∷◌, length, sym, ap, ◌∙◌, arith}
use Rattle.net_core.specs.JoinedLines.{is_continued, joined}
use Rattle.blif_in.specs.Inner.JoinedLines.{lines_behind}
use Rattle.blif_in.proofs.Lines.{joined_here, joined_last, joined_more, joined_none, some_here}
use Rattle.blif_in.proofs.joined_lines.join_lines.Goals as goal

pub loop-line-preserved : goal.loop-line-preserved
loop-line-preserved c =
    let first : c.loop-line.lines ≡ c.in-Some.line ∷ c.next_line.new.self = rw c.in-Some.is at c.in_ok-line.ensures.some in
    joined_more c.loop-line.front c.add_line.new.front c.in-Some.line c.loop-line.lines c.next_line.new.self (lines_behind c.args.front.now (joined c.args.lines.now)) c.loop-line.invariant first c.in_ok-add_line.ensures
    (sym (c.is_joined_to_next-goes_on.ensures ∙ ap is_continued c.as_slice.ensures) ∙ c.if-not-goes_on.false)

pub loop-line-smaller : goal.loop-line-smaller
loop-line-smaller c =
    let first : c.loop-line.lines ≡ c.in-Some.line ∷ c.next_line.new.self = rw c.in-Some.is at c.in_ok-line.ensures.some in
    omega (arith, ap length first)

pub returns-then-not-goes_on-clause-some : goal.returns-then-not-goes_on-clause-some
returns-then-not-goes_on-clause-some c =
    let first : c.loop-line.lines ≡ c.in-Some.line ∷ c.next_line.new.self = rw c.in-Some.is at c.in_ok-line.ensures.some in
    joined_here c.loop-line.front c.add_line.new.front c.in-Some.line c.loop-line.lines c.next_line.new.self (lines_behind c.args.front.now (joined c.args.lines.now)) c.loop-line.invariant first c.in_ok-add_line.ensures
    (sym (c.is_joined_to_next-goes_on.ensures ∙ ap is_continued c.as_slice.ensures) ∙ c.if-not-goes_on.true)

pub returns-then-not-goes_on-clause-none : goal.returns-then-not-goes_on-clause-none
returns-then-not-goes_on-clause-none c = some_here c.loop-line.front c.add_line.new.front c.in-Some.line _ c.in_ok-add_line.ensures

pub returns-clause-some : goal.returns-clause-some
returns-clause-some c =
    let none : c.loop-line.lines ≡ [] = rw c.in_default.is at c.in_ok-line.ensures.none in
    let left : c.next_line.new.self ≡ [] = rw c.in_default.is at c.in_ok-line.ensures.nothing_left in
    joined_last c.loop-line.front c.loop-line.lines c.next_line.new.self (lines_behind c.args.front.now (joined c.args.lines.now)) c.loop-line.invariant none left

pub returns-clause-none : goal.returns-clause-none
returns-clause-none c =
    let none : c.loop-line.lines ≡ [] = rw c.in_default.is at c.in_ok-line.ensures.none in
    joined_none c.loop-line.front c.loop-line.lines (lines_behind c.args.front.now (joined c.args.lines.now)) c.loop-line.invariant none
