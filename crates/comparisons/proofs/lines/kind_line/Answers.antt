use Rattle.std.proofs.Common.{[], inr}
use Rattle.std.proofs.lemmas.Result.{IfOk-weaker}
use Rattle.blif_out.specs.Head.{kind_word}
use Rattle.comparisons.proofs.Texts.{kind_counted, kind_refused, latches_noted, reason_told}
use Rattle.split_texts.specs.Causes.{IsNotWritten}
use Rattle.comparisons.proofs.lines.kind_line.Goals as goal

pub decompose_work-requires-clause-few : goal.decompose_work-requires-clause-few
decompose_work-requires-clause-few c = λ is. absurd (c.requires.operand is)

pub parts_line-requires : goal.parts_line-requires
parts_line-requires c =
    let judged = c.in-Ok.ensures c.requires.work.0 c.requires.work.1 in
    latches_noted c.args.kind [] c.requires.work.0 c.args.work.now.file.now c.in-Ok.made judged.1.1

pub returns-in-Ok : goal.returns-in-Ok
returns-in-Ok c = λ reduce is.
    let judged = c.in-Ok.ensures reduce is in
    IfOk-weaker c.parts_line.result _ _ (λ line told. kind_counted c.args.kind reduce c.args.work.now.file.now c.in-Ok.made line.items judged.0 judged.1.0 judged.1.1 told) c.parts_line.ensures

pub reason_line-requires : goal.reason_line-requires
reason_line-requires c =
    kind_refused c.args.kind c.requires.work.0 c.args.work.now.file.now c.word_of_kind.result.now c.in-Err.refusal c.requires.operand c.word_of_kind.ensures
    (c.in-Err.ensures c.requires.work.0 c.requires.work.1)

pub returns-in-Err : goal.returns-in-Err
returns-in-Err c = λ reduce is.
    IfOk-weaker c.reason_line.result _ _
    (λ line told. inr (reason_told (IsNotWritten c.args.kind [] reduce c.args.work.now.file.now) c.word_of_kind.result.now (kind_word c.args.kind) line.items c.in-Err.refusal c.word_of_kind.ensures (c.in-Err.ensures reduce is) told))
    c.reason_line.ensures
