use Rattle.std.proofs.Common.{arith}
use Rattle.split_texts.proofs.Coding.{coded, left_together, stop_long, stop_together}
use Rattle.split_texts.proofs.networks.codes_of.Goals as goal

pub not_apart-requires-clause-state : goal.not_apart-requires-clause-state
not_apart-requires-clause-state c =
    let first = left_together c.args.work.now.machine c.args.split.now.parts c.states.result c.states.ensures.count c.encode.result c.in-Err-NotApart.field-0 c.encode.ensures.refused c.in-Err-NotApart.is c.in-Err-NotApart.s c.in-Err-NotApart.t c.in-Err-NotApart.field-0-is in
    omega (arith, c.from.ensures, first.partner.above, first.partner.within)

pub not_apart-requires-clause-other : goal.not_apart-requires-clause-other
not_apart-requires-clause-other c =
    let first = left_together c.args.work.now.machine c.args.split.now.parts c.states.result c.states.ensures.count c.encode.result c.in-Err-NotApart.field-0 c.encode.ensures.refused c.in-Err-NotApart.is c.in-Err-NotApart.s c.in-Err-NotApart.t c.in-Err-NotApart.field-0-is in
    omega (arith, c.from-in-Err-NotApart.ensures, first.partner.within)

pub returns-in-Ok : goal.returns-in-Ok
returns-in-Ok c =
    coded c.args.work.now.machine c.args.split.now.parts c.states.result c.states.ensures.count c.in-Ok.codes c.requires.planned.1.lawful c.in-Ok.ensures.code c.in-Ok.ensures.distinct c.in-Ok.ensures.short

pub returns-in_ok-not_apart-in-Err-NotApart : goal.returns-in_ok-not_apart-in-Err-NotApart
returns-in_ok-not_apart-in-Err-NotApart c =
    stop_together c.args.work.now.machine c.args.split.now.parts c.states.result c.states.ensures.count c.encode.result c.in-Err-NotApart.field-0 c.encode.ensures.refused c.in-Err-NotApart.is c.from.result c.from-in-Err-NotApart.result
    c.in_ok-not_apart-in-Err-NotApart.field-0 (rw (c.from.ensures, c.from-in-Err-NotApart.ensures) c.in-Err-NotApart.field-0-is) c.in_ok-not_apart-in-Err-NotApart.ensures

pub returns-in-Err-CodeTooLong : goal.returns-in-Err-CodeTooLong
returns-in-Err-CodeTooLong c =
    stop_long c.args.work.now.machine c.args.split.now.parts c.states.result c.states.ensures.count c.encode.result c.in-Err-CodeTooLong.field-0 c.encode.ensures.refused c.in-Err-CodeTooLong.is c.in-Err-CodeTooLong.bits c.in-Err-CodeTooLong.field-0-is
