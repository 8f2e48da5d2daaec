use Rattle.std.proofs.Common.{◌^◌, length}
use Rattle.io_pairs.specs.Inner.Families.{functions_of}
use Rattle.io_pairs.specs.Inputs.{GoFromStates}
use Rattle.io_pairs.proofs.OwnWords.{high_answer}
use Rattle.io_pairs.proofs.symbols.input_high.Goals as goal

pub returns : goal.returns
returns c =
    let F = c.args.m.now in
    let family = c.in_ok-family.family in
    let made = c.in_ok-family.ensures in
    high_answer (2 ^ F.inputs) (length F.states) (functions_of family) (GoFromStates F) made.going family.members family.values made.members made.values c.greatest_partner.result c.args.q.now c.greatest_partner.ensures
