use Rattle.std.proofs.Common.{length}
use Rattle.io_pairs.specs.Inner.Families.{functions_of}
use Rattle.io_pairs.specs.Outputs.{GoAtSymbols, occurring}
use Rattle.io_pairs.proofs.OwnWords.{low_answer}
use Rattle.io_pairs.proofs.states.output_low.Goals as goal

pub returns : goal.returns
returns c =
    let F = c.args.m.now in
    let family = c.in_ok-family.family in
    let made = c.in_ok-family.ensures in
    low_answer (length F.states) (length (occurring F)) (functions_of family) (GoAtSymbols F) made.going family.members family.values made.members made.values c.least_partner.result c.args.p.now c.requires.states c.least_partner.ensures
