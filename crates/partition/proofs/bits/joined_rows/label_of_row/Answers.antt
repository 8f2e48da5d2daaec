use Rattle.std.proofs.Common.{◌*◌, ◌<◌, refl, arith}
use Rattle.partition.proofs.BlockRows.{row_slice}
use Rattle.partition.proofs.Gathering.{row_has, two_of}
use Rattle.partition.proofs.bits.joined_rows.label_of_row.Goals as goal

pub bounds-labels-s : goal.bounds-labels-s
bounds-labels-s c =
    let has = row_has c.args.rows.now c.args.width c.args.i (c.args.i * c.args.width) c.in-Some.s refl c.in-Some.ensures.some in
    (c.requires.rows.together c.args.i c.in-Some.s c.in-Some.s c.requires.i has.0 has.0 has.1 has.1).0

pub unreachable-requires : goal.unreachable-requires
unreachable-requires c =
    let two = c.requires.rows.shared c.args.i c.requires.i in
    let inside : two.0 < 64 * c.args.width = omega (arith, two.3.0, c.requires.states) in
    omega (arith, two.4, row_slice c.args.rows.now c.args.width c.args.i (c.args.i * c.args.width) two.0 refl inside, c.in-None.ensures.none two.0)

pub returns-clause-label : goal.returns-clause-label
returns-clause-label c s inside on =
    let has = row_has c.args.rows.now c.args.width c.args.i (c.args.i * c.args.width) c.in-Some.s refl c.in-Some.ensures.some in
    (c.requires.rows.together c.args.i s c.in-Some.s c.requires.i inside has.0 on has.1).2

pub returns-clause-two : goal.returns-clause-two
returns-clause-two c =
    let has = row_has c.args.rows.now c.args.width c.args.i (c.args.i * c.args.width) c.in-Some.s refl c.in-Some.ensures.some in
    let two = c.requires.rows.shared c.args.i c.requires.i in
    let inside : two.0 < 64 * c.args.width = omega (arith, two.3.0, c.requires.states) in
    two_of c.args.labels.now two.0 two.1 _ two.2 two.3 (c.requires.rows.together c.args.i two.0 c.in-Some.s c.requires.i inside has.0 two.4 has.1).2
