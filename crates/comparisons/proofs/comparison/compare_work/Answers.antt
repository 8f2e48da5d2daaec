use Rattle.std.proofs.Common.{ℕ, List, ◌++◌, ap, ◌∙◌}
use Rattle.hs_io.specs.Spelling.{ended}
use Rattle.comparisons.proofs.Texts.{compared_is}
use Rattle.comparisons.proofs.comparison.compare_work.Goals as goal

pub returns : goal.returns
returns c = λ reduce is.
    compared_is reduce c.args.work.now.file.now c.in_ok-text.text.items c.append_line.new.text.items c.in_ok-last.last.items (c.in_ok-text.ensures reduce is) (c.in_ok-last.ensures reduce is)
    (c.in_ok-append_line.ensures ∙ ap (λ (line : List ℕ). c.in_ok-text.text.items ++ ended line) c.as_slice.ensures.value)
