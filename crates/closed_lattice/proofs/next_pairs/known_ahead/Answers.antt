use Rattle.std.proofs.Common.{ℕ, subst}
use Rattle.partition.specs.Partition.{Together}
use Rattle.closed_lattice.proofs.Growing.{principal_back}
use Rattle.closed_lattice.proofs.next_pairs.known_ahead.Goals as goal

pub returns-in-loop-k : goal.returns-in-loop-k
returns-in-loop-k c =
    let p = c.in-Some.least.now in
    let held = subst (λ (n : ℕ). Together p n c.args.t) c.from.ensures (subst (λ (n : ℕ). Together p c.from.result n) c.from-in-loop-k.ensures (c.same.ensures.0 c.if-same.true)) in
    principal_back c.args.m.now c.args.s c.args.t c.in_ok-u.u c.in_ok-u.v p c.in_ok-u.ensures.image (c.in-Some.ensures c.args.m.now c.requires.known) held
