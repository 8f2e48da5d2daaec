use Rattle.std.proofs.Common.{sym, ◌∙◌, arith}
use Rattle.std.proofs.lemmas.List.Sums.{position_or_len_is}
use Rattle.hs_io.specs.Inner.Cut.{cuts}
use Rattle.hs_io.proofs.lines.line_text.first_cut.Goals as goal

pub returns-then-is_cut-clause-place : goal.returns-then-is_cut-clause-place
returns-then-is_cut-clause-place c =
    sym (position_or_len_is (cuts c.args.cut) c.args.text.now _ 0 (omega arith) c.loop-place.invariant (λ lt. sym c.is_cut.ensures ∙ c.if-is_cut.true))

pub returns-clause-place : goal.returns-clause-place
returns-clause-place c =
    sym (position_or_len_is (cuts c.args.cut) c.args.text.now _ 0 (omega arith) (λ k lt. c.loop-place.invariant k (omega arith)) (λ lt. absurd (omega arith)))
