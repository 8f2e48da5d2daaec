use Rattle.std.proofs.Common.{◌≡◌, ◌++◌, false, not, sym, ◌∙◌, ap}
use Rattle.kiss2.specs.Faults.{has_twice}
use Rattle.kiss2.specs.Laws.Finding.{twice_more}
use Rattle.kiss2.proofs.line_operands.add_both.Goals as goal

pub returns-then-not-branch : goal.returns-then-not-branch
returns-then-not-branch c =
    let old : c.in_ok-add_new.field-0 ≡ false = c.if-not-branch.true in
    sym (twice_more c.args.first.now c.args.second.now
    (sym (ap (λ names. has_twice (names ++ c.args.first.now)) c.requires.empty) ∙ (c.in_ok-add_new.ensures.twice ∙ ap not old)))
