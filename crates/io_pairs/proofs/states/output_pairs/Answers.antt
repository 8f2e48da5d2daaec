use Rattle.std.proofs.Common.{length}
use Rattle.io_pairs.specs.Inner.Families.{functions_of}
use Rattle.io_pairs.specs.Outputs.{GoAtSymbols, occurring}
use Rattle.io_pairs.proofs.OwnWords.{more_answer, none_answer, whole_answer}
use Rattle.io_pairs.proofs.states.output_pairs.Goals as goal

pub returns-clause-whole : goal.returns-clause-whole
returns-clause-whole c =
    let F = c.args.m.now in
    let family = c.in_ok-family.family in
    let made = c.in_ok-family.ensures in
    whole_answer (length F.states) (length (occurring F)) (functions_of family) (GoAtSymbols F) made.going family.members family.values made.members made.values c.listed.result c.listed.ensures.whole

pub returns-clause-no_more : goal.returns-clause-no_more
returns-clause-no_more c =
    let F = c.args.m.now in
    let family = c.in_ok-family.family in
    let made = c.in_ok-family.ensures in
    none_answer (length F.states) (length (occurring F)) (functions_of family) (GoAtSymbols F) made.going family.members family.values made.members made.values c.args.limit c.listed.result c.listed.ensures.no_more

pub returns-clause-more : goal.returns-clause-more
returns-clause-more c =
    let F = c.args.m.now in
    let family = c.in_ok-family.family in
    let made = c.in_ok-family.ensures in
    more_answer (length F.states) (length (occurring F)) (functions_of family) (GoAtSymbols F) made.going family.members family.values made.members made.values c.args.limit c.listed.result c.listed.ensures.more
