use Rattle.std.proofs.Common.{◌<◌, ◌^◌, arith, rules}
use Rattle.pattern_bundles.proofs.Words.{first_mark, without_mark}
use Rattle.pattern_bundles.proofs.marks.take_first.Goals as goal

pub returns-clause-first : goal.returns-clause-first
returns-clause-first c =
    let word = c.args.marks.now in
    let some : 0 < word = let other = c.if-word-eq0.false in omega (arith, other) in
    let fits : word < 2 ^ 64 = search rules in
    first_mark word some fits

pub returns-clause-taken : goal.returns-clause-taken
returns-clause-taken c =
    let word = c.args.marks.now in
    let some : 0 < word = let other = c.if-word-eq0.false in omega (arith, other) in
    let fits : word < 2 ^ 64 = search rules in
    let first = first_mark word some fits in
    without_mark word _ first.below first.marked fits
