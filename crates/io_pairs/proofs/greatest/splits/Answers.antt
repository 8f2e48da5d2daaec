use Rattle.std.proofs.Common.{◌<◌, length, arith}
use Rattle.io_pairs.proofs.Parting.{label_below, split_lt}
use Rattle.io_pairs.proofs.greatest.splits.Goals as goal

pub overflow_cast-number : goal.overflow_cast-number
overflow_cast-number c =
    let classes = c.args.classes.now in
    let q = c.args.q.now in
    let x = c.loop-x.x in
    let class = c.from-in-loop-x.result in
    let label = c.from-in-loop-x-2.result in
    let width = c.len-labels.result in
    let in_classes : x < length classes = omega arith in
    let in_class : class < 256 = omega (arith, c.from-in-loop-x.ensures, label_below (length classes) classes x c.requires.classes in_classes, c.requires.classes.count.1) in
    let in_value : c.from.result < width = omega (arith, c.from.ensures, c.requires.values x in_classes, c.len-labels.ensures.len) in
    let in_label : label < width = omega (arith, c.from-in-loop-x-2.ensures, c.label-label.ensures, label_below width q c.from.result c.len-labels.ensures.lawful in_value) in
    omega (arith, split_lt 256 width class label in_class in_label, c.len-labels.ensures.lawful.count.1)
