use Rattle.std.proofs.lemmas.Result.{IfOk-weaker}
use Rattle.gate_rows.specs.Laws.TermCovers.{texts_cover, texts_widths}
use Rattle.gate_rows.proofs.texts.rows.Goals as goal

pub returns-clause-cover : goal.returns-clause-cover
returns-clause-cover c =
    IfOk-weaker c.row_texts.result _ _
    (λ names moved.
    texts_cover c.args.width c.from.result c.args.on.now c.args.off.now c.in_ok-terms.terms.items c.deref.result.now names c.requires.on_fits c.requires.off_fits
    c.in_ok-terms.ensures.fits c.in_ok-terms.ensures.good c.from.ensures c.deref.ensures.value moved)
    c.row_texts.ensures.texts

pub returns-clause-widths : goal.returns-clause-widths
returns-clause-widths c =
    IfOk-weaker c.row_texts.result _ _
    (λ names moved.
    texts_widths c.args.width c.from.result c.args.on.now c.args.off.now c.in_ok-terms.terms.items c.deref.result.now names c.requires.on_fits c.requires.off_fits
    c.in_ok-terms.ensures.fits c.in_ok-terms.ensures.good c.from.ensures c.deref.ensures.value moved)
    c.row_texts.ensures.texts
