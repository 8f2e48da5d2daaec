use Rattle.std.proofs.Common.{ℕ, List, [], ◌++◌, ap, ◌∙◌}
use Rattle.hs_io.specs.Spelling.{ended}
use Rattle.state_codes.specs.declared.split.Kind.TheVariants.{Code}
use Rattle.comparisons.proofs.Texts.{kinds_all, kinds_more}
use Rattle.comparisons.proofs.comparison.kind_lines.Goals as goal

pub loop-kind-init : goal.loop-kind-init
loop-kind-init c = λ reduce is. ([], tt, c.new-text.ensures.items)

pub loop-kind-preserved : goal.loop-kind-preserved
loop-kind-preserved c = λ reduce is.
    kinds_more reduce c.args.work.now.file.now c.args.compared.now c.loop-kind.kind-index Code c.in_ok-line.line.items c.loop-kind.text.items c.append_line.new.text.items c.loop-kind-test.true
    (c.loop-kind.invariant reduce is) (c.in_ok-line.ensures reduce is)
    (c.in_ok-append_line.ensures ∙ ap (λ (line : List ℕ). c.loop-kind.text.items ++ ended line) c.as_slice.ensures.value)

pub returns : goal.returns
returns c = λ reduce is. kinds_all reduce c.args.work.now.file.now c.args.compared.now c.loop-kind.kind-index c.loop-kind.text.items c.loop-kind-test.false (c.loop-kind.invariant reduce is)
