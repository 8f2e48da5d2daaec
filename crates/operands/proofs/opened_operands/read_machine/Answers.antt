use Rattle.operands.proofs.Opened.{read_of_built}
use Rattle.operands.proofs.opened_operands.read_machine.Goals as goal
use Rattle.kiss2_laws.proofs.ReadLawful.{read_lawful}

pub with_machine-requires : goal.with_machine-requires
with_machine-requires c = read_lawful c.args.text.now c.in-Ok.file c.in-Ok.ensures.read

pub returns-in-Ok : goal.returns-in-Ok
returns-in-Ok c =
    read_of_built c.args.text.now c.args.fill c.in-Ok.file c.with_machine.result c.in-Ok.ensures.read (read_lawful c.args.text.now c.in-Ok.file c.in-Ok.ensures.read) c.with_machine.ensures
