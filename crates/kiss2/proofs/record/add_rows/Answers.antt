use Rattle.std.proofs.Common.{◌≡◌, ◌+◌, ◌++◌, [], ◌∷◌, take, ap, sym, ◌∙◌, subst}
use Rattle.std.specs.List.{AllZip}
use Rattle.std.proofs.lemmas.List.{take_more}
use Rattle.kiss2.specs.Inner.FaultlessLines.{IsGoodRow, IsKnownRow}
use Rattle.kiss2.specs.Kiss.{IsRowOf}
use Rattle.kiss2.specs.Laws.Building.{zip_push}
use Rattle.kiss2.proofs.record.add_rows.Goals as goal

pub row_of-requires-clause-good : goal.row_of-requires-clause-good
row_of-requires-clause-good c =
    let good = c.requires.good in
    (good.0, good.1, subst (IsGoodRow c.args.inputs good.0) (sym c.line-item.is) (good.2 c.loop-line.line-index c.line-item.result c.loop-line-test.true))

pub row_of-requires-clause-known : goal.row_of-requires-clause-known
row_of-requires-clause-known c = subst (IsKnownRow c.args.states.now) (sym c.line-item.is) (c.requires.known c.loop-line.line-index c.line-item.result c.loop-line-test.true)

pub loop-line-preserved : goal.loop-line-preserved
loop-line-preserved c =
    let lines = c.args.lines.now in
    let i = c.loop-line.line-index in
    let line = c.line-item.result in
    let states = c.args.states.now in
    let more : take (i + 1) lines ≡ take i lines ++ line ∷ [] = take_more lines i line c.loop-line-test.true ∙ ap (λ l. take i lines ++ l ∷ []) (sym c.line-item.is) in
    subst (λ rows. AllZip (IsRowOf states) (take (i + 1) lines) rows) (sym c.in_ok-push.ensures.ok)
    (subst (λ front. AllZip (IsRowOf states) front (c.loop-line.rows ++ c.row_of.result ∷ [])) (sym more)
    (zip_push (IsRowOf states) (take i lines) c.loop-line.rows line c.row_of.result c.loop-line.invariant c.row_of.ensures))
