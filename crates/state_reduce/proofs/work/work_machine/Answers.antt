use Rattle.std.proofs.Common.{Bool, None, refl, subst, sym}
use Rattle.state_reduce.specs.declared.work.WorkMachine.{WorkMachine}
use Rattle.state_reduce.specs.Work.{IsWork}
use Rattle.state_reduce.proofs.Works.{file_is}
use Rattle.state_reduce.proofs.work.work_machine.Goals as goal

pub returns : goal.returns
returns c =
    let work : WorkMachine = record { file = c.args.file; machine = c.args.machine; classes = None; names = None } in
    subst (λ (reduce : Bool). IsWork reduce c.args.file.now work) (sym c.if-reduce.false) (file_is c.args.file.now work refl c.requires.machine refl refl)
