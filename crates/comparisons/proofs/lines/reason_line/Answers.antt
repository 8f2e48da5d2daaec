use Rattle.std.proofs.lemmas.Result.{IfOk-weaker}
use Rattle.comparisons.proofs.Texts.{no_reason, reason_line_is}
use Rattle.comparisons.proofs.lines.reason_line.Goals as goal

pub returns-in-Some : goal.returns-in-Some
returns-in-Some c =
    IfOk-weaker c.short.result _ _ (λ line told. reason_line_is c.args.word.now line.items c.args.refusal.now c.in-Some.reason c.in-Some.ensures told) c.short.ensures

pub want_of_memory-requires : goal.want_of_memory-requires
want_of_memory-requires c = no_reason c.args.word.now c.args.refusal.now c.requires c.in-None.ensures
