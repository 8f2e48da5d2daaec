use Rattle.cover_texts.proofs.Coding.{never_long, never_together}
use Rattle.cover_texts.proofs.pairs.codes_of_pairs.Goals as goal

pub unreachable-requires : goal.unreachable-requires
unreachable-requires c =
    never_together c.args.n c.args.cover.now.blocks c.args.split.now.parts c.requires.parts c.encode.result c.in-Err-NotApart.field-0 c.encode.ensures.refused c.in-Err-NotApart.is c.in-Err-NotApart.field-0-0 c.in-Err-NotApart.field-0-1 c.in-Err-NotApart.field-0-is

pub unreachable-requires-in-Err-CodeTooLong : goal.unreachable-requires-in-Err-CodeTooLong
unreachable-requires-in-Err-CodeTooLong c =
    never_long c.args.n c.args.cover.now.blocks c.args.split.now.parts c.requires.parts c.encode.result c.in-Err-CodeTooLong.field-0 c.encode.ensures.refused c.in-Err-CodeTooLong.is c.requires.cover.0 c.requires.cover.1 c.in-Err-CodeTooLong.field-0-0 c.in-Err-CodeTooLong.field-0-is
