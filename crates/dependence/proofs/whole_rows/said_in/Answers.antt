use Rattle.std.proofs.Common.{List, sym, ◌∙◌, subst, arith}
use Rattle.std.proofs.lemmas.Bool.{true≢false}
use Rattle.std.proofs.lemmas.List.{take_all}
use Rattle.cubes.specs.Cube.{Meets}
use Rattle.kiss_file.specs.declared.file.KissRow.{KissRow}
use Rattle.dependence.specs.Inner.FilledRows.{SayNothing}
use Rattle.machine_table.specs.OpenEntries.{Says}
use Rattle.dependence.proofs.FilledRows.{among_more}
use Rattle.dependence.proofs.whole_rows.said_in.Goals as goal

pub returns-then-says_within-clause-some : goal.returns-then-says_within-clause-some
returns-then-says_within-clause-some c x held =
    (c.row-item.result, (c.loop-row.row-index, c.loop-row-test.true, sym c.row-item.is), held, (c.says_within.ensures.0 c.if-says_within.true).0)

pub loop-row-preserved : goal.loop-row-preserved
loop-row-preserved c =
    among_more c.args.rows.now c.loop-row.row-index c.row-item.result (λ r. Meets c.args.cube.now r.cube → ¬ Says c.args.part r) c.loop-row-test.true c.row-item.is c.loop-row.invariant
    (λ meets says. true≢false (sym (c.says_within.ensures.1 (says, meets)) ∙ c.if-says_within.false))

pub returns-clause-none : goal.returns-clause-none
returns-clause-none c =
    subst (λ (list : List KissRow). SayNothing list c.args.cube.now c.args.part) (take_all c.loop-row.row-index c.args.rows.now (omega arith)) c.loop-row.invariant
