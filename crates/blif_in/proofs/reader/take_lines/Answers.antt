use Rattle.std.proofs.Common.{◌≡◌, ◌∷◌, List, ap, arith, length, subst}
use Rattle.std.proofs.lemmas.Result.{err_from_is_err_and}
use Rattle.hs_io.specs.declared.lines.Line.{Line}
use Rattle.net_core.specs.JoinedLines.{joined}
use Rattle.blif_in.specs.Inner.JoinedLines.{lines_read, statement_lines}
use Rattle.blif_in.specs.Inner.Progress.{IsReadTo}
use Rattle.blif_in.proofs.Measured.{statements_measurable}
use Rattle.blif_in.proofs.Progressing.{first_measurable, read_by_more, read_by_none, tells_same}
use Rattle.blif_in.proofs.reader.take_lines.Goals as goal

pub loop-line-init : goal.loop-line-init
loop-line-init c =
    read_by_none (lines_read c.args.bytes.now) _ _ _ (ap (λ (lines : List Line). statement_lines (joined lines)) c.new-lines.ensures) (c.requires.none (lines_read c.args.bytes.now)) c.requires.small
    (statements_measurable c.args.bytes.now c.requires.short) c.requires.empty

pub take_line-requires-clause-measurable : goal.take_line-requires-clause-measurable
take_line-requires-clause-measurable c =
    first_measurable (lines_read c.args.bytes.now) _ (statement_lines (joined c.next_statement.new.lines)) c.in-Some.line c.loop-line.progress c.loop-line.draft c.loop-line.invariant (rw c.in-Some.is at c.in_ok-line.ensures.some)

pub returns-in_err-take_line-clause-read : goal.returns-in_err-take_line-clause-read
returns-in_err-take_line-clause-read c =
    let lines = lines_read c.args.bytes.now in
    let rest = statement_lines (joined c.next_statement.new.lines) in
    let first : statement_lines (joined c.loop-line.lines) ≡ c.in-Some.line ∷ rest = rw c.in-Some.is at c.in_ok-line.ensures.some in
    let here = subst (λ items. IsReadTo lines items c.loop-line.progress) first c.loop-line.invariant.read in
    let p = err_from_is_err_and c.from_residual-in_err-take_line.result c.from_residual-in_err-take_line.ensures.1 in
    rw (p.1, p.2) (tells_same _ _ _ _ (c.in_err-take_line.ensures.read lines rest here))

pub loop-line-preserved-in_ok-take_line : goal.loop-line-preserved-in_ok-take_line
loop-line-preserved-in_ok-take_line c =
    let lines = lines_read c.args.bytes.now in
    let rest = statement_lines (joined c.next_statement.new.lines) in
    let first : statement_lines (joined c.loop-line.lines) ≡ c.in-Some.line ∷ rest = rw c.in-Some.is at c.in_ok-line.ensures.some in
    read_by_more lines _ rest c.in-Some.line c.loop-line.progress c.take_line.new.progress c.loop-line.draft c.take_line.new.draft c.loop-line.invariant first (c.in_ok-take_line.ensures.read lines rest) c.in_ok-take_line.ensures.small
    c.in_ok-take_line.ensures.adds

pub loop-line-preserved : goal.loop-line-preserved
loop-line-preserved c =
    let lines = lines_read c.args.bytes.now in
    let rest = statement_lines (joined c.next_statement.new.lines) in
    let first : statement_lines (joined c.loop-line.lines) ≡ c.in-Some.line ∷ rest = rw c.in-Some.is at c.in_ok-line.ensures.some in
    read_by_more lines _ rest c.in-Some.line c.loop-line.progress c.take_line.new.progress c.loop-line.draft c.take_line.new.draft c.loop-line.invariant first (c.in_ok-take_line.ensures.read lines rest) c.in_ok-take_line.ensures.small
    c.in_ok-take_line.ensures.adds

pub loop-line-smaller : goal.loop-line-smaller
loop-line-smaller c =
    let first : statement_lines (joined c.loop-line.lines) ≡ c.in-Some.line ∷ statement_lines (joined c.next_statement.new.lines) = rw c.in-Some.is at c.in_ok-line.ensures.some in
    omega (arith, ap length first)
