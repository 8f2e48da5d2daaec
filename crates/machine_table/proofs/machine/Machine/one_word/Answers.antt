use Rattle.std.proofs.Common.{◌∙◌, sym}
use Rattle.machine_table.proofs.SettledCubes.{settled_out}
use Rattle.machine_table.proofs.machine.Machine.one_word.Goals as goal

pub returns-clause-outputs : goal.returns-clause-outputs
returns-clause-outputs c y held =
    let F = c.args.self.now in
    let table = c.keeps_its_states.ensures.table in
    let no_conflict = c.keeps_its_states.ensures.no_conflict in
    settled_out F table no_conflict c.args.s c.args.cube.now c.requires.settled y c.least_symbol.result held c.least_symbol.ensures.held ∙ sym c.output_word.ensures.outputs
