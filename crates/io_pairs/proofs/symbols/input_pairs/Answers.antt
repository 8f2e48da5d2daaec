use Rattle.std.proofs.Common.{◌^◌, length}
use Rattle.io_pairs.specs.Inner.Families.{functions_of}
use Rattle.io_pairs.specs.Inputs.{GoFromStates}
use Rattle.io_pairs.proofs.OwnWords.{more_answer, none_answer, whole_answer}
use Rattle.io_pairs.proofs.symbols.input_pairs.Goals as goal

pub returns-clause-whole : goal.returns-clause-whole
returns-clause-whole c =
    let F = c.args.m.now in
    let family = c.in_ok-family.family in
    let made = c.in_ok-family.ensures in
    whole_answer (2 ^ F.inputs) (length F.states) (functions_of family) (GoFromStates F) made.going family.members family.values made.members made.values c.listed.result c.listed.ensures.whole

pub returns-clause-no_more : goal.returns-clause-no_more
returns-clause-no_more c =
    let F = c.args.m.now in
    let family = c.in_ok-family.family in
    let made = c.in_ok-family.ensures in
    none_answer (2 ^ F.inputs) (length F.states) (functions_of family) (GoFromStates F) made.going family.members family.values made.members made.values c.args.limit c.listed.result c.listed.ensures.no_more

pub returns-clause-more : goal.returns-clause-more
returns-clause-more c =
    let F = c.args.m.now in
    let family = c.in_ok-family.family in
    let made = c.in_ok-family.ensures in
    more_answer (2 ^ F.inputs) (length F.states) (functions_of family) (GoFromStates F) made.going family.members family.values made.members made.values c.args.limit c.listed.result c.listed.ensures.more
