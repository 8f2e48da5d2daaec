use Rattle.std.proofs.Common.{◌∙◌, sym}
use Rattle.closed_lattice.proofs.Joining.{joins_principal}
use Rattle.closed_lattice.proofs.closure.join_one.Goals as goal

pub joined-requires : goal.joined-requires
joined-requires c = (c.in-Some.ensures c.args.m.now c.requires.known).lawful.length ∙ sym c.requires.lawful.length

pub returns-in_ok-p : goal.returns-in_ok-p
returns-in_ok-p c =
    joins_principal c.args.m.now c.args.u c.args.v c.args.p.now c.in-Some.least.now c.in_ok-p.field-0 c.requires.lawful (c.in-Some.ensures c.args.m.now c.requires.known) c.in_ok-p.ensures
