use Rattle.std.proofs.Common.{◌≡◌, ◌++◌, [], ◌∷◌, refl, arith}
use Rattle.std.proofs.lemmas.Bool.{false≢true}
use Rattle.std.proofs.lemmas.List.{nil_from_length}
use Rattle.closed_lattice.specs.Inner.WaitingPairs.{LeavesOut}
use Rattle.closed_lattice.proofs.Waiting.{leaves_all, leaves_more, leaves_none, takes_last, last_among}
use Rattle.closed_lattice.proofs.closure.next_apart.Goals as goal

pub loop-u-init : goal.loop-u-init
loop-u-init c = leaves_all c.args.p.now c.args.waiting.now.items

pub same-requires-clause-s : goal.same-requires-clause-s
same-requires-clause-s c =
    let left = rw c.in-Some.ensures.items at c.loop-u.invariant in
    rw c.from-s.ensures (c.requires c.in-Some.u c.in-Some.v (last_among c.args.p.now _ c.pop.new.self.items c.in-Some.u c.in-Some.v left)).0

pub same-requires-clause-t : goal.same-requires-clause-t
same-requires-clause-t c =
    let left = rw c.in-Some.ensures.items at c.loop-u.invariant in
    rw c.from-t.ensures (c.requires c.in-Some.u c.in-Some.v (last_among c.args.p.now _ c.pop.new.self.items c.in-Some.u c.in-Some.v left)).1

pub returns-then-not-same-clause-apart : goal.returns-then-not-same-clause-apart
returns-then-not-same-clause-apart c =
    let left = rw c.in-Some.ensures.items at c.loop-u.invariant in
    let taken : LeavesOut c.args.p.now c.args.waiting.now.items (c.pop.new.self.items ++ (c.from-s.result, c.from-t.result) ∷ []) = rw (c.from-s.ensures, c.from-t.ensures) left in
    takes_last c.args.p.now c.args.waiting.now.items c.pop.new.self.items c.from-s.result c.from-t.result taken (λ held. false≢true (c.if-not-same.ensures.1 held))

pub loop-u-preserved : goal.loop-u-preserved
loop-u-preserved c =
    let left = rw c.in-Some.ensures.items at c.loop-u.invariant in
    let taken : LeavesOut c.args.p.now c.args.waiting.now.items (c.pop.new.self.items ++ (c.from-s.result, c.from-t.result) ∷ []) = rw (c.from-s.ensures, c.from-t.ensures) left in
    leaves_more c.args.p.now c.args.waiting.now.items c.pop.new.self.items c.from-s.result c.from-t.result taken (c.if-not-same.ensures.0 refl)

pub returns-clause-none : goal.returns-clause-none
returns-clause-none c =
    let empty : c.loop-u.waiting.items ≡ [] = nil_from_length _ (omega (arith, c.in_default.ensures.cases)) in
    leaves_none c.args.p.now _ (rw empty at c.loop-u.invariant)
