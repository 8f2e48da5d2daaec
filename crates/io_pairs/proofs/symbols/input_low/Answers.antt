use Rattle.std.proofs.Common.{◌^◌, length}
use Rattle.io_pairs.specs.Inner.Families.{functions_of}
use Rattle.io_pairs.specs.Inputs.{GoFromStates}
use Rattle.io_pairs.proofs.OwnWords.{low_answer}
use Rattle.io_pairs.proofs.symbols.input_low.Goals as goal

pub returns : goal.returns
returns c =
    let F = c.args.m.now in
    let family = c.in_ok-family.family in
    let made = c.in_ok-family.ensures in
    low_answer (2 ^ F.inputs) (length F.states) (functions_of family) (GoFromStates F) made.going family.members family.values made.members made.values c.least_partner.result c.args.p.now c.requires.symbols c.least_partner.ensures
