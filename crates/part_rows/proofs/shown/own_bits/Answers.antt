use Rattle.part_rows.proofs.OwnBits.{part_bits}
use Rattle.part_rows.proofs.shown.own_bits.Goals as goal

pub returns-in-Part-clause-bits : goal.returns-in-Part-clause-bits
returns-in-Part-clause-bits c =
    part_bits c.args.codes.now c.args.which c.in-Part.j c.args.word c.as_slice.result.now c.bits_of_owner.result c.in-Part.is c.as_slice.ensures c.requires.owner c.bits_of_owner.ensures.bits
