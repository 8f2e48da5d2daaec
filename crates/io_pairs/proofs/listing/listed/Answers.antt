use Rattle.std.proofs.Common.{map}
use Rattle.io_pairs.specs.Inner.Families.{functions_of}
use Rattle.partition.specs.Sides.{Sides}
use Rattle.io_pairs.specs.Sides.{sides_of}
use Rattle.io_pairs.proofs.Listed.{paired, paired_evidence, right_evidence}
use Rattle.io_pairs.proofs.listing.listed.Goals as goal

pub returns-in_ok-with_lefts-in-Whole-clause-whole : goal.returns-in_ok-with_lefts-in-Whole-clause-whole
returns-in_ok-with_lefts-in-Whole-clause-whole c =
    let family = c.args.family.now in
    let made = c.in_ok-with_lefts-in-Whole in
    paired family.members family.values (functions_of family) c.in-Whole.rights (map sides_of made.field-0) made.ensures (rw c.in-Whole.is at c.in_ok-rights.ensures.whole)

pub returns-in_ok-with_lefts-in-Whole-clause-no_more : goal.returns-in_ok-with_lefts-in-Whole-clause-no_more
returns-in_ok-with_lefts-in-Whole-clause-no_more c pairs evidence =
    let family = c.args.family.now in
    (rw c.in-Whole.is at c.in_ok-rights.ensures.no_more) (map (λ (x : Sides). x.1) pairs) (right_evidence family.members family.values (functions_of family) c.args.limit pairs evidence)

pub returns-in_ok-with_lefts-in-More-clause-more : goal.returns-in_ok-with_lefts-in-More-clause-more
returns-in_ok-with_lefts-in-More-clause-more c =
    let family = c.args.family.now in
    let made = c.in_ok-with_lefts-in-More in
    paired_evidence family.members family.values (functions_of family) c.in-More.rights (map sides_of made.field-0) made.ensures c.args.limit (rw c.in-More.is at c.in_ok-rights.ensures.more)
