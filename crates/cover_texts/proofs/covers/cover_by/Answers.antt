use Rattle.std.proofs.Common.{length, refl}
use Rattle.std.proofs.lemmas.Result.{err_from_is_err_and}
use Rattle.cover_texts.proofs.Judged.{judged_network}
use Rattle.cover_texts.proofs.Judging.{stop_of_machine}
use Rattle.cover_texts.proofs.covers.cover_by.Goals as goal

pub returns-in_err-pairs : goal.returns-in_err-pairs
returns-in_err-pairs c = λ text is.
    let p = err_from_is_err_and c.from_residual.result c.from_residual.ensures.1 in
    rw (p.1, p.2)
    (stop_of_machine c.args.file.now c.args.machine.now (length c.args.machine.now.states) c.requires.machine refl text c.args.blocks.now.blocks _ is c.in_err-pairs.ensures)

pub returns : goal.returns
returns c = λ text is.
    let made = c.in_ok-network_of_pairs.ensures in
    judged_network c.args.file.now c.args.machine.now c.in_ok-pairs.pairs c.requires.machine text c.args.blocks.now.blocks is c.in_ok-pairs.ensures c.in_ok-network_of_pairs.field-0 made.ready made.whole
