use Rattle.part_texts.proofs.Making.{if_made}
use Rattle.part_texts.proofs.machines.machine_of_part.Goals as goal

pub returns : goal.returns
returns c =
    if_made c.args.work.now.file.now c.args.work.now c.args.made.now c.requires.made c.requires.lawful c.requires.no_conflict c.requires.work.0 c.requires.work.1 c.args.which c.args.set.now c.requires.set
    c.rows_make_the_part.ensures c.parts_are_lawful.ensures c.requires.short c.machine_of_pieces.result c.machine_of_pieces.ensures
