use Rattle.std.proofs.Common.{◌≡◌, sym, ◌∙◌}
use Rattle.state_reduce.specs.declared.demands.QuotientFail.TheVariants.{NotClosed, NotConsistent, NoMemory}
use Rattle.state_reduce.proofs.Works.{quotient_unrefused}
use Rattle.state_reduce.proofs.work.file_of_classes.Goals as goal

pub unreachable-requires : goal.unreachable-requires
unreachable-requires c =
    quotient_unrefused c.args.file.now c.args.classes.now c.in-Err-NotClosed.field-0 c.requires.lawful c.requires.alike
    (λ e. let f : NotClosed c.in-Err-NotClosed.field-0-0 c.in-Err-NotClosed.field-0-1 c.in-Err-NotClosed.field-0-2 ≡ NoMemory = sym c.in-Err-NotClosed.field-0-is ∙ e in cc)
    c.in-Err-NotClosed.ensures.caused

pub unreachable-requires-in-Err-NotConsistent : goal.unreachable-requires-in-Err-NotConsistent
unreachable-requires-in-Err-NotConsistent c =
    quotient_unrefused c.args.file.now c.args.classes.now c.in-Err-NotConsistent.field-0 c.requires.lawful c.requires.alike
    (λ e. let f : NotConsistent c.in-Err-NotConsistent.field-0-0 c.in-Err-NotConsistent.field-0-1 c.in-Err-NotConsistent.field-0-2 ≡ NoMemory = sym c.in-Err-NotConsistent.field-0-is ∙ e in cc)
    c.in-Err-NotConsistent.ensures.caused

pub returns-in-Ok-clause-accepted : goal.returns-in-Ok-clause-accepted
returns-in-Ok-clause-accepted c = c.in-Ok.ensures.accepted c.args.fill c.requires.accepted

pub returns-in-Ok-clause-in_order : goal.returns-in-Ok-clause-in_order
returns-in-Ok-clause-in_order c = c.in-Ok.ensures.in_order c.requires.alike
