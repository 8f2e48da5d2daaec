use Rattle.std.proofs.Common.{◌≡◌, sym, ◌∙◌}
use Rattle.std.proofs.lemmas.Result.{IfOk-weaker}
use Rattle.kiss2.specs.KissText.{kiss_text}
use Rattle.state_reduce.specs.declared.demands.QuotientFail.TheVariants.{NotClosed, NotConsistent, NoMemory}
use Rattle.machine_reports.proofs.Reducing.{alike_of, never_refused, right_reduced}
use Rattle.machine_reports.specs.ReducedText.{IsReducedText}
use Rattle.machine_reports.proofs.classes.reduce.Goals as goal

pub returns-in-Ok : goal.returns-in-Ok
returns-in-Ok c =
    let alike = alike_of c.args.machine.now c.args.file.now c.in_ok-alike.alike c.requires.machine c.in_ok-alike.ensures in
    IfOk-weaker c.write.result (λ text. text.items ≡ kiss_text c.in-Ok.reduced) (λ text. IsReducedText c.args.file.now c.args.fill text.items)
    (λ text written. right_reduced c.args.file.now c.in_ok-alike.alike c.requires.lawful alike c.args.fill c.in-Ok.reduced text.items
    c.in-Ok.ensures.quotient (c.in-Ok.ensures.in_order alike) (c.in-Ok.ensures.lawful c.requires.lawful)
    (c.in-Ok.ensures.accepted c.args.fill c.requires.accepted) (c.in-Ok.ensures.apart alike) c.in-Ok.ensures.answers written)
    c.write.ensures

pub unreachable-requires : goal.unreachable-requires
unreachable-requires c =
    let alike = alike_of c.args.machine.now c.args.file.now c.in_ok-alike.alike c.requires.machine c.in_ok-alike.ensures in
    never_refused c.args.file.now c.in_ok-alike.alike c.requires.lawful alike c.in-Err-NotClosed.field-0
    (λ e. let f : NotClosed c.in-Err-NotClosed.field-0-0 c.in-Err-NotClosed.field-0-1 c.in-Err-NotClosed.field-0-2 ≡ NoMemory = sym c.in-Err-NotClosed.field-0-is ∙ e in cc)
    c.in-Err-NotClosed.ensures.caused

pub unreachable-requires-in-Err-NotConsistent : goal.unreachable-requires-in-Err-NotConsistent
unreachable-requires-in-Err-NotConsistent c =
    let alike = alike_of c.args.machine.now c.args.file.now c.in_ok-alike.alike c.requires.machine c.in_ok-alike.ensures in
    never_refused c.args.file.now c.in_ok-alike.alike c.requires.lawful alike c.in-Err-NotConsistent.field-0
    (λ e. let f : NotConsistent c.in-Err-NotConsistent.field-0-0 c.in-Err-NotConsistent.field-0-1 c.in-Err-NotConsistent.field-0-2 ≡ NoMemory = sym c.in-Err-NotConsistent.field-0-is ∙ e in cc)
    c.in-Err-NotConsistent.ensures.caused
