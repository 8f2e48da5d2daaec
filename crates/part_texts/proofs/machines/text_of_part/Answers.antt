use Rattle.std.proofs.lemmas.Result.{err_from_is_err_and}
use Rattle.answers.specs.Laws.Causes.{stop_within}
use Rattle.part_texts.specs.Inner.PartHere.{HasNoMachine, HasNoSet, all_names}
use Rattle.part_texts.specs.PartCauses.{IsFirstLong}
use Rattle.part_texts.proofs.Judging.{long_within, none_of_part, set_within}
use Rattle.part_texts.proofs.Making.{bits_counted, inputs_named, latches_named}
use Rattle.part_texts.proofs.machines.text_of_part.Goals as goal

pub set_of_part-requires : goal.set_of_part-requires
set_of_part-requires c = (c.args.work.now.file.now, c.args.work.now.machine, c.keeps_its_states.ensures.table, c.requires.made)

pub names_of_part-requires-clause-inputs : goal.names_of_part-requires-clause-inputs
names_of_part-requires-clause-inputs c =
    inputs_named c.args.work.now.file.now c.args.work.now c.args.made.now c.requires.made c.requires.lawful c.requires.no_conflict c.requires.work.0 c.requires.work.1 c.args.which c.in_ok-set.set c.in_ok-set.ensures.1

pub names_of_part-requires-clause-latches : goal.names_of_part-requires-clause-latches
names_of_part-requires-clause-latches c =
    latches_named c.args.work.now.file.now c.args.work.now c.args.made.now c.requires.made c.requires.lawful c.requires.no_conflict c.requires.work.0 c.requires.work.1 c.args.which c.in_ok-set.set c.in_ok-set.ensures.1

pub names_of_part-requires-clause-bits : goal.names_of_part-requires-clause-bits
names_of_part-requires-clause-bits c =
    bits_counted c.args.work.now.file.now c.args.work.now c.args.made.now c.requires.made c.requires.lawful c.requires.no_conflict c.requires.work.0 c.requires.work.1

pub returns-in_err-set : goal.returns-in_err-set
returns-in_err-set c =
    let p = err_from_is_err_and c.from_residual.result c.from_residual.ensures.1 in
    rw (p.1, p.2)
    (stop_within (HasNoSet c.args.which c.args.made.now.split.parts c.args.made.now.codes c.args.made.now.reads)
    (HasNoMachine c.args.which c.args.made.now.split.parts c.args.made.now.codes c.args.made.now.reads c.args.made.now.names)
    _
    (set_within c.args.which c.args.made.now) c.in_err-set.ensures)

pub returns-in_err-names : goal.returns-in_err-names
returns-in_err-names c =
    let p = err_from_is_err_and c.from_residual-in_err-names.result c.from_residual-in_err-names.ensures.1 in
    rw (p.1, p.2)
    (stop_within (IsFirstLong c.args.which (all_names c.args.made.now c.in_ok-set.set c.args.which))
    (HasNoMachine c.args.which c.args.made.now.split.parts c.args.made.now.codes c.args.made.now.reads c.args.made.now.names)
    _
    (long_within c.args.which c.args.made.now c.in_ok-set.ensures.0 c.in_ok-set.set c.in_ok-set.ensures.1.reads) c.in_err-names.ensures)

pub returns : goal.returns
returns c = (
  none_of_part c.args.which c.args.made.now c.in_ok-set.ensures.0 c.in_ok-set.set c.in_ok-set.ensures.1.reads c.in_ok-names.ensures.0,
  (c.in_ok-machine.machine, c.in_ok-machine.ensures, c.in_ok-write.ensures),
)
