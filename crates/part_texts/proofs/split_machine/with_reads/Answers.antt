use Rattle.std.proofs.Common.{refl}
use Rattle.split_texts.specs.Laws.Kinds.{parts_flow}
use Rattle.part_texts.proofs.split_machine.with_reads.Goals as goal

pub returns : goal.returns
returns c = record {
  same_split = refl;
  same_codes = refl;
  here = record {
    lawful = c.requires.planned.1.lawful;
    coded = c.requires.codes;
    reads = c.in_ok-reads.ensures;
    enough =
        c.reads_are_enough.ensures c.args.work.now.machine c.args.split.parts c.args.codes c.in_ok-reads.reads c.keeps_its_states.ensures.next c.requires.planned.1.lawful
        (parts_flow c.args.split.kind c.requires.planned.0 c.args.work.now.machine c.args.split.parts c.keeps_its_states.ensures.next c.requires.planned.1.lawful c.requires.planned.1.made c.requires.codes.apart)
        c.requires.codes.code c.requires.codes.distinct c.in_ok-reads.ensures;
    own = c.in_ok-names.ensures;
  };
}
