use Rattle.std.proofs.Common.{ℕ, ◌<◌, ◌≤◌, All, List, length, map, ap, sym, subst, arith}
use Rattle.std.proofs.lemmas.List.{length-map}
use Rattle.kiss_file.specs.declared.file.KissFile.{KissFile}
use Rattle.partition.specs.Partition.{IsPartition}
use Rattle.partition.specs.Sides.{Sides}
use Rattle.mm_lattice.specs.Inner.RightSides.{AreRights, HaveRights}
use Rattle.mm_lattice.specs.Sides.{sides_of}
use Rattle.mm_lattice.proofs.Listed.{paired, paired_evidence, right_evidence, rights_fit}
use Rattle.mm_lattice.proofs.listing.all.Goals as goal

pub right_sides-requires-clause-each : goal.right_sides-requires-clause-each
right_sides-requires-clause-each c =
    subst (λ (found : List (List ℕ)). length found ≤ c.args.limit → HaveRights c.args.m.now (length c.args.m.now.states) found) (sym c.deref.ensures.value) c.in_ok-found.ensures.each

pub with_lefts-requires-clause-found : goal.with_lefts-requires-clause-found
with_lefts-requires-clause-found c = rights_fit c.args.m.now c.deref-in-Whole.result.now (subst (AreRights c.args.m.now) (sym c.deref-in-Whole.ensures.value) c.in_ok-found.ensures.found)

pub with_lefts-requires-clause-rights : goal.with_lefts-requires-clause-rights
with_lefts-requires-clause-rights c = rw c.in-Whole.is at c.in_ok-sides.ensures.fit

pub with_lefts-requires-in-More-clause-found : goal.with_lefts-requires-in-More-clause-found
with_lefts-requires-in-More-clause-found c = rights_fit c.args.m.now c.deref-in-More.result.now (subst (AreRights c.args.m.now) (sym c.deref-in-More.ensures.value) c.in_ok-found.ensures.found)

pub with_lefts-requires-in-More-clause-rights : goal.with_lefts-requires-in-More-clause-rights
with_lefts-requires-in-More-clause-rights c = rw c.in-More.is at c.in_ok-sides.ensures.fit

pub returns-in-Whole-clause-whole : goal.returns-in-Whole-clause-whole
returns-in-Whole-clause-whole c =
    let made = c.in_ok-with_lefts-in-Whole in
    paired c.args.m.now c.in-Whole.sides (map sides_of made.field-0) made.ensures (rw c.in-Whole.is at c.in_ok-sides.ensures.whole)

pub returns-in-Whole-clause-within : goal.returns-in-Whole-clause-within
returns-in-Whole-clause-within c =
    let pairs = c.in_ok-with_lefts-in-Whole.field-0 in
    let within = rw c.in-Whole.is at c.in_ok-sides.ensures.within in
    omega (arith, ap length c.in_ok-with_lefts-in-Whole.ensures.same, length-map (map sides_of pairs) (λ (x : Sides). x.1), length-map pairs sides_of, within)

pub returns-in-Whole-clause-no_more : goal.returns-in-Whole-clause-no_more
returns-in-Whole-clause-no_more c pairs evidence =
    (rw c.in-Whole.is at c.in_ok-sides.ensures.no_more) (map (λ (x : Sides). x.1) pairs) (right_evidence c.args.m.now c.args.limit pairs evidence)

pub returns-clause-more : goal.returns-clause-more
returns-clause-more c =
    let made = c.in_ok-with_lefts-in-More in
    paired_evidence c.args.m.now c.in-More.sides (map sides_of made.field-0) made.ensures c.args.limit (rw c.in-More.is at c.in_ok-sides.ensures.more)
